-- Readers of design units and files.
use Rattle.std.specs.Prelude.{ℕ, zero, suc, Bool, true, false, not, if◌then◌else◌, List, [], ◌∷◌, ◌++◌, Ok, Err}
use Rattle.sim_text_tokens.specs.declared.kind.Kind.{Kind}
use Rattle.sim_text_tokens.specs.declared.kind.Kind.TheVariants as k
use Rattle.sim_text_grammar.specs.declared.error.ParseError.TheVariants.{Syntax}
use Rattle.sim_text_tree.specs.Name.{Name}
use Rattle.sim_text_tree.specs.declared.declaration.Declaration.{Declaration}
use Rattle.sim_text_tree.specs.declared.unit.SelectedName.{SelectedName}
use Rattle.sim_text_tree.specs.declared.unit.ContextItem.{ContextItem}
use Rattle.sim_text_tree.specs.declared.unit.ContextItem.TheVariants as items
use Rattle.sim_text_tree.specs.declared.unit.Entity.{Entity}
use Rattle.sim_text_tree.specs.declared.unit.Architecture.{Architecture}
use Rattle.sim_text_tree.specs.declared.unit.LibraryUnit.{LibraryUnit}
use Rattle.sim_text_tree.specs.declared.unit.LibraryUnit.TheVariants as units
use Rattle.sim_text_tree.specs.declared.unit.DesignUnit.{DesignUnit}
use Rattle.sim_text_tree.specs.DesignFile.{DesignFile}
use Rattle.sim_text_tree.specs.Input.{Input}
use Rattle.sim_text_grammar.specs.Readers.{ParseResult, Parser, ◌>>=◌, ◌>>◌, pure, refuse, peek, take_token, word, sees, eat, expect, many, many_from}
use Rattle.sim_text_grammar.specs.Readers.{separated, same_kind, left}
use Rattle.sim_text_grammar.specs.Declarations.{names, ports, repeated, declarations}
use Rattle.sim_text_grammar.specs.Concurrents.{concurrents}

-- ---- context clauses

-- further suffixes, at most n, and whether the last is `all`
unfoldable pub suffixes_from : ℕ → List Name → Parser (List Name × Bool)
suffixes_from zero found = refuse
suffixes_from (suc n) found = do
  expect k.Dot
  is_all ← eat k.All
  if is_all then pure (found, true) else (do
    x ← word
    λ i. if sees k.Dot i then suffixes_from n (found ++ x ∷ []) i else Ok ((found ++ x ∷ [], false), i))

-- the suffixes of a selected name (8.3)
unfoldable pub suffixes : Parser (List Name × Bool)
suffixes = λ i. suffixes_from (left i) [] i

-- a selected name (8.3)
unfoldable pub selected : Parser SelectedName
selected = do
  prefix ← word
  found ← suffixes
  pure (record { prefix = prefix; suffixes = found.0; all = found.1 })

-- selected names, separated by commas
unfoldable pub selected_names : Parser (List SelectedName)
selected_names = separated k.Comma selected

-- a context item, by the kind of its first token
abbrev pub item_by : Kind → Parser ContextItem
item_by k.Library = do
  take_token
  ns ← names
  expect k.Semicolon
  pure (items.Library ns)
item_by _ = do
  expect k.Use
  found ← selected_names
  expect k.Semicolon
  pure (items.Use found)

-- a library clause or a use clause (13.4)
unfoldable pub context_item : Parser ContextItem
context_item = peek >>= item_by

-- whether a token of this kind begins a context item
abbrev pub begins_context : Kind → Bool
begins_context k.Library = true
begins_context k.Use = true
begins_context _ = false

-- a context clause (13.4)
unfoldable pub context : Parser (List ContextItem)
context = many begins_context context_item

-- ---- units

-- an entity declaration (3.2)
unfoldable pub entity : Parser Entity
entity = do
  expect k.Entity
  name ← word
  expect k.Is
  found ← ports
  expect k.End
  with_word ← eat k.Entity
  again ← repeated name.text
  expect k.Semicolon
  pure (record { name = name; ports = found; word_repeated = with_word; name_repeated = again })

-- the statements of an architecture, and its end
unfoldable pub architecture_body : Name → Name → List Declaration → Parser Architecture
architecture_body name entity found = do
  expect k.Begin
  body ← concurrents
  expect k.End
  with_word ← eat k.Architecture
  again ← repeated name.text
  expect k.Semicolon
  pure (record { name = name; entity = entity; declarations = found; statements = body; word_repeated = with_word; name_repeated = again })

-- an architecture body (3.3)
unfoldable pub architecture : Parser Architecture
architecture = do
  expect k.Architecture
  name ← word
  expect k.Of
  entity ← word
  expect k.Is
  found ← declarations
  architecture_body name entity found

-- a library unit, by the kind of its first token
abbrev pub library_by : Kind → Parser LibraryUnit
library_by k.Architecture = do
  found ← architecture
  pure (units.Architecture found)
library_by _ = do
  found ← entity
  pure (units.Entity found)

-- a library unit (13.1)
unfoldable pub library_unit : Parser LibraryUnit
library_unit = peek >>= library_by

-- a design unit (13.1)
unfoldable pub unit : Parser DesignUnit
unit = do
  before ← context
  found ← library_unit
  pure (record { context = before; library_unit = found })

-- whether a token remains, from the kind of the next one
abbrev pub goes_on : Kind → Bool
goes_on kind = not (same_kind kind k.EndOfText)

-- at least one design unit
unfoldable pub units_of : Parser (List DesignUnit)
units_of = unit >>= λ first. λ i. many_from goes_on unit (left i) (first ∷ []) i

-- a fault if a token remains
abbrev pub finish_by : Input → Input → ParseResult (Unit {0})
finish_by i [] = Ok (tt, i)
finish_by i (t ∷ ts) = Err (Syntax (left i))

-- the end of the tokens
unfoldable pub finish : Parser (Unit {0})
finish = λ i. finish_by i i

-- a design file (13.1)
unfoldable pub file : Parser DesignFile
file = do
  found ← units_of
  finish
  pure (record { units = found })
