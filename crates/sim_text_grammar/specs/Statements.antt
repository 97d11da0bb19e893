-- Readers of sequential statements.
use Rattle.std.specs.Prelude.{ℕ, zero, suc, Bool, true, false, if◌then◌else◌, List, Option, Some, None, Ok, Err}
use Rattle.sim_text_tokens.specs.declared.kind.Kind.{Kind}
use Rattle.sim_text_tokens.specs.declared.kind.Kind.TheVariants as k
use Rattle.sim_text_grammar.specs.declared.error.ParseError.TheVariants.{TooDeep}
use Rattle.sim_text_tree.specs.Name.{Name}
use Rattle.sim_text_tree.specs.declared.expression.Expression.{Expression}
use Rattle.sim_text_tree.specs.declared.sequential.Statement.{Statement}
use Rattle.sim_text_tree.specs.declared.sequential.Statement.TheVariants as s
use Rattle.sim_text_tree.specs.declared.sequential.Sequential.{Sequential, roll-Sequential}
use Rattle.sim_text_tree.specs.declared.sequential.Branch.{Branch, roll-Branch}
use Rattle.sim_text_tree.specs.Limits.{most_ifs}
use Rattle.sim_text_grammar.specs.Readers.{Parser, ◌>>=◌, ◌>>◌, pure, refuse, peek, take_token, word, repeat, sees, eat, expect, many, separated, left}
use Rattle.sim_text_grammar.specs.Expressions.{expression}
use Rattle.sim_text_grammar.specs.Waveforms.{delay, waveform}

-- the label repeated, which is allowed only for a labelled statement
abbrev pub label_by : Option Name → Parser Bool
label_by None = refuse
label_by (Some n) = repeat n.text >> pure true

-- the label repeated, if a word comes next
unfoldable pub label_again : Option Name → Parser Bool
label_again label = λ i. if sees k.Word i then label_by label i else Ok (false, i)

-- a variable assignment, after its target (10.6)
unfoldable pub variable_assigned : Name → Parser Statement
variable_assigned target = do
  take_token
  value ← expression
  expect k.Semicolon
  pure (s.Variable (record { target = target; value = value }))

-- a signal assignment, after its target (10.5.2)
unfoldable pub signal_assigned : Name → Parser Statement
signal_assigned target = do
  expect k.SignalAssign
  d ← delay
  w ← waveform
  expect k.Semicolon
  pure (s.Signal (record { target = target; delay = d; waveform = w }))

-- an assignment, by the kind of the token after its target
abbrev pub assigned_by : Name → Kind → Parser Statement
assigned_by target k.VariableAssign = variable_assigned target
assigned_by target _ = signal_assigned target

-- an assignment, after its target
unfoldable pub assigned : Name → Parser Statement
assigned target = peek >>= assigned_by target

-- a null statement (10.14)
unfoldable pub null : Parser Statement
null = do
  take_token
  expect k.Semicolon
  pure s.Null

-- a statement with this label or without one
abbrev pub with_label : Option Name → Parser Statement → Parser Sequential
with_label label reader = do
  x ← reader
  pure (roll-Sequential (record { label = label; statement = x }))

-- a condition and the `then` after it
unfoldable pub condition : Parser Expression
condition = do
  found ← expression
  expect k.Then
  pure found

-- whether a token of this kind begins a sequential statement
abbrev pub begins_statement : Kind → Bool
begins_statement k.Word = true
begins_statement k.If = true
begins_statement k.Null = true
begins_statement _ = false

-- The parameter reads an if statement, after its label.
module _ (inner : Option Name → Parser Statement) where
  -- a statement, after its label, by the kind of its first token
  abbrev pub labelled_by : Option Name → Kind → Parser Statement
  labelled_by label k.If = inner label
  labelled_by label k.Null = null
  labelled_by label _ = do
    target ← word
    assigned target

  -- a statement, after its label
  unfoldable pub labelled : Option Name → Parser Statement
  labelled label = peek >>= labelled_by label

  -- a statement, after its first name, which is its label or the target of an assignment
  abbrev pub named_by : Name → Parser Sequential
  named_by first = do
    is_label ← eat k.Colon
    if is_label then with_label (Some first) (labelled (Some first)) else with_label None (assigned first)

  -- a sequential statement, by the kind of its first token
  abbrev pub statement_by : Kind → Parser Sequential
  statement_by k.If = with_label None (inner None)
  statement_by k.Null = with_label None null
  statement_by _ = do
    first ← word
    named_by first

  -- a sequential statement (10.1)
  unfoldable pub statement : Parser Sequential
  statement = peek >>= statement_by

  -- a sequence of statements (10.1)
  unfoldable pub sequence : Parser (List Sequential)
  sequence = many begins_statement statement

  -- a condition and the statements after its `then`
  unfoldable pub branch : Parser Branch
  branch = do
    condition ← expression
    expect k.Then
    found ← sequence
    pure (roll-Branch (record { condition = condition; statements = found }))

  -- the branches after `if` and each `elsif`
  unfoldable pub branches : Parser (List Branch)
  branches = separated k.Elsif branch

  -- `else` and its statements, if written
  unfoldable pub otherwise : Parser (Option (List Sequential))
  otherwise = do
    is_else ← eat k.Else
    if is_else then (do
      found ← sequence
      pure (Some found)) else pure None

-- the end of an if statement
unfoldable pub if_end : Option Name → List Branch → Option (List Sequential) → Parser Statement
if_end label found last = do
  expect k.End
  expect k.If
  again ← label_again label
  expect k.Semicolon
  pure (s.If found last again)

-- an if statement, after its label, with at most this many ifs open
unfoldable pub if_statement : ℕ → Option Name → Parser Statement
if_statement zero label = λ i. Err (TooDeep (left i))
if_statement (suc depth) label = do
  take_token
  found ← branches (if_statement depth)
  last ← otherwise (if_statement depth)
  if_end label found last

-- statements with at most as many open ifs as allowed (10.1)
unfoldable pub statements : Parser (List Sequential)
statements = sequence (if_statement most_ifs)
