-- Readers of concurrent statements.
use Rattle.std.specs.Prelude.{ℕ, zero, suc, Bool, true, false, ◌||◌, if◌then◌else◌, List, [], ◌∷◌, ◌++◌, Option, Some, None}
use Rattle.sim_text_tokens.specs.declared.kind.Kind.{Kind}
use Rattle.sim_text_tokens.specs.declared.kind.Kind.TheVariants as k
use Rattle.sim_text_tree.specs.Name.{Name}
use Rattle.sim_text_tree.specs.declared.declaration.ObjectDeclaration.{ObjectDeclaration}
use Rattle.sim_text_tree.specs.declared.unit.Sensitivity.{Sensitivity}
use Rattle.sim_text_tree.specs.declared.unit.Sensitivity.TheVariants as sensitivities
use Rattle.sim_text_tree.specs.declared.unit.Process.{Process}
use Rattle.sim_text_tree.specs.declared.unit.Actual.{Actual}
use Rattle.sim_text_tree.specs.declared.unit.Actual.TheVariants as a
use Rattle.sim_text_tree.specs.declared.unit.Association.{Association}
use Rattle.sim_text_tree.specs.declared.unit.Instantiated.{Instantiated}
use Rattle.sim_text_tree.specs.declared.unit.Instantiated.TheVariants as made
use Rattle.sim_text_tree.specs.declared.unit.Concurrent.{Concurrent}
use Rattle.sim_text_tree.specs.declared.unit.Concurrent.TheVariants as c
use Rattle.sim_text_tree.specs.Grammar.{is_named}
use Rattle.sim_text_grammar.specs.Readers.{Parser, ◌>>=◌, ◌>>◌, pure, refuse, peek, take_token, word, literal, eat, expect, many, left}
use Rattle.sim_text_grammar.specs.Waveforms.{assigned}
use Rattle.sim_text_grammar.specs.Declarations.{names, variables}
use Rattle.sim_text_grammar.specs.Statements.{label_again, statements}

-- ---- processes

-- a sensitivity list (10.2)
unfoldable pub sensitivity : Parser Sensitivity
sensitivity = do
  is_all ← eat k.All
  if is_all then pure sensitivities.All else (do
    ns ← names
    pure (sensitivities.Names ns))

-- `postponed` repeated, which is allowed only for a postponed process
abbrev pub postponed_again : Bool → Parser Bool
postponed_again true = eat k.Postponed
postponed_again false = pure false

-- the statements of a process, and its end
unfoldable pub process_body : Option Name → Bool → Sensitivity → Bool → List ObjectDeclaration → Parser Process
process_body label postponed sensitive is found = do
  expect k.Begin
  body ← statements
  expect k.End
  word_again ← postponed_again postponed
  expect k.Process
  again ← label_again label
  expect k.Semicolon
  pure (record {
    label = label;
    postponed = postponed;
    sensitivity = sensitive;
    is = is;
    variables = found;
    statements = body;
    postponed_repeated = word_again;
    label_repeated = again;
  })

-- a process, after its label and `postponed`
unfoldable pub process : Option Name → Bool → Parser Process
process label postponed = do
  expect k.Process
  expect k.LeftParen
  sensitive ← sensitivity
  expect k.RightParen
  is ← eat k.Is
  found ← variables
  process_body label postponed sensitive is found

-- ---- instances

-- an actual, by the kind of its first token
abbrev pub actual_by : Kind → Parser Actual
actual_by k.Literal = do
  found ← literal
  pure (a.Literal found.0 found.1)
actual_by k.Open = do
  at ← take_token
  pure (a.Open at)
actual_by _ = do
  n ← word
  pure (a.Named n)

-- an actual (6.5.7)
unfoldable pub actual : Parser Actual
actual = peek >>= actual_by

-- an association, after the arrow of its formal
unfoldable pub associated : Name → Parser Association
associated formal = do
  x ← actual
  pure (record { formal = Some formal; actual = x })

-- an association with a formal
unfoldable pub named_association : Parser Association
named_association = do
  formal ← word
  expect k.Arrow
  associated formal

-- an association, positional or not, by the kind of its first token
abbrev pub free_by : Kind → Parser Association
free_by k.Word = do
  n ← word
  is_formal ← eat k.Arrow
  if is_formal then associated n else pure (record { formal = None; actual = a.Named n })
free_by _ = do
  x ← actual
  pure (record { formal = None; actual = x })

-- an association, positional or not
unfoldable pub free_association : Parser Association
free_association = peek >>= free_by

-- an association; its formal is required once one was named
unfoldable pub association : Bool → Parser Association
association named = if named then named_association else free_association

-- further associations, at most n
unfoldable pub associations_from : ℕ → Bool → List Association → Parser (List Association)
associations_from zero named found = refuse
associations_from (suc n) named found = do
  x ← association named
  is_more ← eat k.Comma
  if is_more then associations_from n (named || is_named x.formal) (found ++ x ∷ []) else pure (found ++ x ∷ [])

-- the associations of a port map (6.5.7)
unfoldable pub associations : Parser (List Association)
associations = λ i. associations_from (left i) false [] i

-- a port map, if one is written
unfoldable pub port_map : Parser (List Association)
port_map = do
  is_written ← eat k.Port
  if is_written then (do
    expect k.Map
    expect k.LeftParen
    found ← associations
    expect k.RightParen
    pure found) else pure []

-- the port map and the semicolon of an instance
unfoldable pub instance : Name → Instantiated → Parser Concurrent
instance label unit = do
  found ← port_map
  expect k.Semicolon
  pure (c.Instance (record { label = label; unit = unit; associations = found }))

-- the name of an architecture, if one is written
unfoldable pub chosen : Parser (Option Name)
chosen = do
  is_written ← eat k.LeftParen
  if is_written then (do
    n ← word
    expect k.RightParen
    pure (Some n)) else pure None

-- an entity, and its architecture if one is written (11.7)
unfoldable pub entity_named : Parser Instantiated
entity_named = do
  take_token
  library ← word
  expect k.Dot
  entity ← word
  architecture ← chosen
  pure (made.Entity library entity architecture)

-- ---- statements

-- a concurrent assignment, after its target (11.6)
unfoldable pub concurrent_assigned : Option Name → Bool → Name → Parser Concurrent
concurrent_assigned label postponed target = do
  found ← assigned label postponed target
  pure (c.Assignment found)

-- a process, after its label and `postponed`
unfoldable pub concurrent_process : Option Name → Bool → Parser Concurrent
concurrent_process label postponed = do
  found ← process label postponed
  pure (c.Process found)

-- a process or an assignment after `postponed`, by the kind of its first token
abbrev pub postponed_by : Option Name → Kind → Parser Concurrent
postponed_by label k.Process = concurrent_process label true
postponed_by label _ = do
  n ← word
  concurrent_assigned label true n

-- a process or an assignment, from `postponed`
unfoldable pub postponed : Option Name → Parser Concurrent
postponed label = do
  take_token
  kind ← peek
  postponed_by label kind

-- an assignment or an instance, after a label and its first name
abbrev pub target_by : Name → Name → Kind → Parser Concurrent
target_by label n k.SignalAssign = concurrent_assigned (Some label) false n
target_by label n _ = instance label (made.Component false n)

-- a statement, after its label, by the kind of its first token
abbrev pub labelled_by : Name → Kind → Parser Concurrent
labelled_by label k.Process = concurrent_process (Some label) false
labelled_by label k.Postponed = postponed (Some label)
labelled_by label k.Component = do
  take_token
  n ← word
  instance label (made.Component true n)
labelled_by label k.Entity = do
  unit ← entity_named
  instance label unit
labelled_by label _ = do
  n ← word
  kind ← peek
  target_by label n kind

-- a statement, after its label
unfoldable pub labelled : Name → Parser Concurrent
labelled label = peek >>= labelled_by label

-- a statement, after its first name
abbrev pub first_by : Name → Kind → Parser Concurrent
first_by first k.SignalAssign = concurrent_assigned None false first
first_by first _ = do
  expect k.Colon
  labelled first

-- a concurrent statement, by the kind of its first token
abbrev pub concurrent_by : Kind → Parser Concurrent
concurrent_by k.Process = concurrent_process None false
concurrent_by k.Postponed = postponed None
concurrent_by _ = do
  first ← word
  kind ← peek
  first_by first kind

-- a concurrent statement (11.1)
unfoldable pub concurrent : Parser Concurrent
concurrent = peek >>= concurrent_by

-- whether a token of this kind begins a concurrent statement
abbrev pub begins_concurrent : Kind → Bool
begins_concurrent k.Word = true
begins_concurrent k.Process = true
begins_concurrent k.Postponed = true
begins_concurrent _ = false

-- the statements of an architecture (3.3.3)
unfoldable pub concurrents : Parser (List Concurrent)
concurrents = many begins_concurrent concurrent
