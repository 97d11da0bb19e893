-- Readers of declarations.
use Rattle.std.specs.Prelude.{ℕ, Bool, true, false, if◌then◌else◌, List, [], Option, Some, None, Ok}
use Rattle.sim_text_tokens.specs.declared.kind.Kind.{Kind}
use Rattle.sim_text_tokens.specs.declared.kind.Kind.TheVariants as k
use Rattle.sim_text_tree.specs.Name.{Name}
use Rattle.sim_text_tree.specs.declared.declaration.Initial.{Initial}
use Rattle.sim_text_tree.specs.declared.declaration.Initial.TheVariants as first_values
use Rattle.sim_text_tree.specs.declared.declaration.Mode.{Mode}
use Rattle.sim_text_tree.specs.declared.declaration.Mode.TheVariants as modes
use Rattle.sim_text_tree.specs.declared.declaration.PortDeclaration.{PortDeclaration}
use Rattle.sim_text_tree.specs.declared.declaration.ObjectDeclaration.{ObjectDeclaration}
use Rattle.sim_text_tree.specs.declared.declaration.ComponentDeclaration.{ComponentDeclaration}
use Rattle.sim_text_tree.specs.declared.declaration.Declaration.{Declaration}
use Rattle.sim_text_tree.specs.declared.declaration.Declaration.TheVariants as declared
use Rattle.sim_text_grammar.specs.Readers.{Parser, ◌>>=◌, ◌>>◌, pure, peek, take_token, word, literal, repeat, sees, eat, expect, many, separated}
use Rattle.sim_text_grammar.specs.Readers.{same_kind}

-- one name, or several
unfoldable pub names : Parser (List Name)
names = separated k.Comma word

-- the name repeated, if a word comes next
unfoldable pub repeated : List ℕ → Parser Bool
repeated text = λ i. if sees k.Word i then (repeat text >> pure true) i else Ok (false, i)

-- an initial value, by the kind of its token
abbrev pub initial_by : Kind → Parser (Option Initial)
initial_by k.Literal = do
  found ← literal
  pure (Some (first_values.Literal found.0 found.1))
initial_by _ = do
  n ← word
  pure (Some (first_values.Named n))

-- an initial value, if one is written
unfoldable pub initial : Parser (Option Initial)
initial = do
  is_written ← eat k.VariableAssign
  if is_written then peek >>= initial_by else pure None

-- a mode, by the kind of the next token
abbrev pub mode_by : Kind → Parser (Option Mode)
mode_by k.In = take_token >> pure (Some modes.In)
mode_by k.Out = take_token >> pure (Some modes.Out)
mode_by k.Inout = take_token >> pure (Some modes.Inout)
mode_by _ = pure None

-- a mode, if one is written
unfoldable pub mode : Parser (Option Mode)
mode = peek >>= mode_by

-- a port declaration, after its names
unfoldable pub port_of : Bool → List Name → Parser PortDeclaration
port_of signal ns = do
  expect k.Colon
  m ← mode
  mark ← word
  first ← initial
  pure (record { signal = signal; names = ns; mode = m; mark = mark; initial = first })

-- ports of one mode and type mark (6.5.2)
unfoldable pub port : Parser PortDeclaration
port = do
  signal ← eat k.Signal
  ns ← names
  port_of signal ns

-- ports, separated by semicolons (6.5.6.3)
unfoldable pub port_list : Parser (List PortDeclaration)
port_list = separated k.Semicolon port

-- a port clause, if one is written
unfoldable pub ports : Parser (List PortDeclaration)
ports = do
  is_written ← eat k.Port
  if is_written then (do
    expect k.LeftParen
    found ← port_list
    expect k.RightParen
    expect k.Semicolon
    pure found) else pure []

-- signals or variables, from their names
unfoldable pub object : Parser ObjectDeclaration
object = do
  ns ← names
  expect k.Colon
  mark ← word
  first ← initial
  expect k.Semicolon
  pure (record { names = ns; mark = mark; initial = first })

-- the variable declarations of a process (6.4.2.4)
unfoldable pub variables : Parser (List ObjectDeclaration)
variables = many (λ y. same_kind y k.Variable) (take_token >> object)

-- the end of a component declaration
unfoldable pub component_end : Name → Bool → List PortDeclaration → Parser ComponentDeclaration
component_end name is found = do
  expect k.End
  expect k.Component
  again ← repeated name.text
  expect k.Semicolon
  pure (record { name = name; is = is; ports = found; name_repeated = again })

-- a component declaration (6.8)
unfoldable pub component : Parser ComponentDeclaration
component = do
  expect k.Component
  name ← word
  is ← eat k.Is
  found ← ports
  component_end name is found

-- whether a token of this kind begins a declaration
abbrev pub begins_declaration : Kind → Bool
begins_declaration k.Signal = true
begins_declaration k.Component = true
begins_declaration _ = false

-- a declaration, by the kind of its first token
abbrev pub declaration_by : Kind → Parser Declaration
declaration_by k.Signal = do
  take_token
  found ← object
  pure (declared.Signal found)
declaration_by _ = do
  found ← component
  pure (declared.Component found)

-- a declaration of an architecture (3.3.2)
unfoldable pub declaration : Parser Declaration
declaration = peek >>= declaration_by

-- the declarations of an architecture (3.3.2)
unfoldable pub declarations : Parser (List Declaration)
declarations = many begins_declaration declaration
