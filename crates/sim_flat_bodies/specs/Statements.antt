-- Statements in the form that is executed (IEEE 1076-2008, 10): names by position, times in femtoseconds, no labels.
use Rattle.std.specs.Prelude.{ℕ, ◌==◌, List, [], ◌∷◌, ◌++◌, map, if◌then◌else◌, Option, Some, None}
use Rattle.std.specs.List.{concat, list_any, position}
use Rattle.sim_flat_scope.specs.declared.scope.Type.TheVariants.{Logic, Boolean}
use Rattle.sim_flat_scope.specs.declared.scope.Meaning.{Meaning}
use Rattle.sim_flat_scope.specs.declared.scope.Meaning.TheVariants as m
use Rattle.sim_flat_scope.specs.Scopes.{Lookup}
use Rattle.sim_text_tree.specs.Times.{time_of}
use Rattle.sim_text_tree.specs.declared.expression.Expression.{Expression}
use Rattle.sim_text_tree.specs.declared.waveform.Element as tree_element
use Rattle.sim_text_tree.specs.declared.waveform.ConditionalWaveform as tree_conditional
use Rattle.sim_text_tree.specs.declared.waveform.DelayMechanism.{DelayMechanism}
use Rattle.sim_text_tree.specs.declared.waveform.DelayMechanism.TheVariants as mechanism
use Rattle.sim_text_tree.specs.declared.waveform.ConcurrentSignalAssignment.{ConcurrentSignalAssignment}
use Rattle.sim_text_tree.specs.declared.sequential.SignalAssignment as tree_signal
use Rattle.sim_text_tree.specs.declared.sequential.Sequential as tree_sequential
use Rattle.sim_text_tree.specs.declared.sequential.Branch as tree_branch
use Rattle.sim_text_tree.specs.declared.sequential.Statement as tree_statement
use Rattle.sim_text_tree.specs.declared.sequential.Statement.TheOpen as s
use Rattle.sim_text_tree.specs.declared.sequential.Statement.TheFolds as folds
use Rattle.sim_flat_design.specs.declared.waveform.Element.{Element}
use Rattle.sim_flat_design.specs.declared.statement.Delay.{Delay}
use Rattle.sim_flat_design.specs.declared.statement.Delay.TheVariants as delay
use Rattle.sim_flat_design.specs.declared.statement.ConditionalWaveform.{ConditionalWaveform}
use Rattle.sim_flat_design.specs.declared.statement.Branch.{Branch, roll-Branch}
use Rattle.sim_flat_design.specs.declared.statement.Statement.{Statement}
use Rattle.sim_flat_design.specs.declared.statement.Statement.TheVariants as d
use Rattle.sim_flat_bodies.specs.Expressions.{logic_of, boolean_of, condition_of}
use Rattle.sim_flat_bodies.specs.Timed.{after_of, concurrent_timed, waveform_timed}

-- ---- targets

-- the signal or port of a target
unfoldable pub target_of : Option Meaning → List ℕ
target_of (Some (m.Port object mode type)) = object ∷ []
target_of (Some (m.Signal object type)) = object ∷ []
target_of _ = []

-- appends a number to a list, unless it is there
unfoldable pub with_new : List ℕ → ℕ → List ℕ
with_new ns n = if list_any (λ m. n == m) ns then ns else ns ++ n ∷ []

abbrev pub otherwise_targets : Option (List (List ℕ)) → List ℕ
otherwise_targets None = []
otherwise_targets (Some ts) = concat ts

module _ (look : Lookup) where
  abbrev pub statement_targets_rule : s.Statement-F (List ℕ) (List ℕ) (List ℕ) → List ℕ
  statement_targets_rule (s.Signal a) = target_of (look a.target.text)
  statement_targets_rule (s.Variable a) = []
  statement_targets_rule (s.If branches otherwise repeated) = concat branches ++ otherwise_targets otherwise
  statement_targets_rule s.Null = []

  abbrev pub branch_targets_rule : s.Branch-F (List ℕ) (List ℕ) (List ℕ) → List ℕ
  branch_targets_rule b = concat b.statements

  abbrev pub sequential_targets_rule : s.Sequential-F (List ℕ) (List ℕ) (List ℕ) → List ℕ
  sequential_targets_rule x = x.statement

  -- the signals and ports that a statement assigns, in textual order, with repetitions
  unfoldable pub statement_targets : tree_statement.Statement → List ℕ
  statement_targets = folds.fold-Statement (List ℕ) (List ℕ) (List ℕ) statement_targets_rule branch_targets_rule sequential_targets_rule

  -- those of a branch
  unfoldable pub branch_targets : tree_branch.Branch → List ℕ
  branch_targets = folds.fold-Branch (List ℕ) (List ℕ) (List ℕ) statement_targets_rule branch_targets_rule sequential_targets_rule

  -- those of a statement with its label
  unfoldable pub sequential_targets : tree_sequential.Sequential → List ℕ
  sequential_targets = folds.fold-Sequential (List ℕ) (List ℕ) (List ℕ) statement_targets_rule branch_targets_rule sequential_targets_rule

  -- those of the branches of an if statement
  unfoldable pub branches_targets : List tree_branch.Branch → List ℕ
  branches_targets [] = []
  branches_targets (b ∷ bs) = branch_targets b ++ branches_targets bs

  -- those of a sequence
  unfoldable pub sequence_targets : List tree_sequential.Sequential → List ℕ
  sequence_targets [] = []
  sequence_targets (x ∷ xs) = sequential_targets x ++ sequence_targets xs

-- appends these numbers to a list, except those that are there
unfoldable pub gathered : List ℕ → List ℕ → List ℕ
gathered before [] = before
gathered before (n ∷ ns) = gathered (with_new before n) ns

-- the signals and ports that a sequence assigns, in the order of the first assignments to them
unfoldable pub targets_of : Lookup → List tree_sequential.Sequential → List ℕ
targets_of look statements = gathered [] (sequence_targets look statements)

-- the position of a number in a list, if it is there
unfoldable pub place_of : List ℕ → ℕ → Option ℕ
place_of ns n = position (λ m. n == m) ns

-- the position of a target's driver: that of the target among those of the process
unfoldable pub driver_of : List ℕ → Option Meaning → Option ℕ
driver_of targets (Some (m.Port object mode type)) = place_of targets object
driver_of targets (Some (m.Signal object type)) = place_of targets object
driver_of targets _ = None

-- ---- statements

-- a delay mechanism
unfoldable pub delay_of : DelayMechanism → Delay
delay_of mechanism.Unwritten = delay.Inertial
delay_of mechanism.Transport = delay.Transport
delay_of mechanism.Inertial = delay.Inertial
delay_of (mechanism.Reject t) = delay.Reject (time_of t.digits t.unit)

module _ (look : Lookup) where
  -- a waveform element
  unfoldable pub element_of : tree_element.Element → Element
  element_of x = record { value = logic_of look x.value; after = after_of x.after }

  -- a waveform
  unfoldable pub waveform_of : List tree_element.Element → List Element
  waveform_of w = map element_of w

  -- a waveform and its condition (10.5.3)
  unfoldable pub conditional_of : tree_conditional.ConditionalWaveform → ConditionalWaveform
  conditional_of c = record { waveform = waveform_of c.waveform; condition = condition_of look c.condition }

  -- the waveform without a condition
  unfoldable pub last_of : Option (List tree_element.Element) → Option (List Element)
  last_of None = None
  last_of (Some w) = Some (waveform_of w)

  -- an assignment to a variable, by its type (10.6); the null statement in a text with a fault
  unfoldable pub variable_of : Option Meaning → Expression → Statement
  variable_of (Some (m.Variable place (Some Logic))) e = d.LogicVariable place (logic_of look e)
  variable_of (Some (m.Variable place (Some Boolean))) e = d.BooleanVariable place (boolean_of look e)
  variable_of _ e = d.Null

-- a signal assignment to the driver at this position (10.5.2, 10.5.3); the null statement in a text with a fault
unfoldable pub assigned : Option ℕ → Delay → List ConditionalWaveform → Option (List Element) → Statement
assigned None delay conditional otherwise = d.Null
assigned (Some driver) delay conditional otherwise =
    d.Signal (record { driver = driver; delay = delay; conditional = conditional; otherwise = otherwise })

-- an optional sequence of statements
abbrev pub or_none : Option (List Statement) → List Statement
or_none None = []
or_none (Some statements) = statements

module _ (look : Lookup) (targets : List ℕ) where
  -- a concurrent signal assignment (11.6); the null statement in a text with a fault
  unfoldable pub concurrent_of : ConcurrentSignalAssignment → Statement
  concurrent_of a =
      if concurrent_timed a then assigned (driver_of targets (look a.target.text)) (delay_of a.delay)
      (map (conditional_of look) a.waveforms.conditional) (last_of look a.waveforms.otherwise) else d.Null

  -- a signal assignment in a process (10.5.2); the null statement in a text with a fault
  unfoldable pub signal_of : tree_signal.SignalAssignment → Statement
  signal_of a =
      if waveform_timed a.delay a.waveform then assigned (driver_of targets (look a.target.text)) (delay_of a.delay)
      [] (Some (waveform_of look a.waveform)) else d.Null

  abbrev pub statement_rule : s.Statement-F Statement Branch Statement → Statement
  statement_rule (s.Signal a) = signal_of a
  statement_rule (s.Variable a) = variable_of look (look a.target.text) a.value
  statement_rule (s.If branches otherwise repeated) = d.If branches (or_none otherwise)
  statement_rule s.Null = d.Null

  abbrev pub branch_rule : s.Branch-F Statement Branch Statement → Branch
  branch_rule b = roll-Branch (record { condition = condition_of look b.condition; statements = b.statements })

  abbrev pub sequential_rule : s.Sequential-F Statement Branch Statement → Statement
  sequential_rule x = x.statement

  -- a statement (10.1)
  unfoldable pub statement_of : tree_statement.Statement → Statement
  statement_of = folds.fold-Statement Statement Branch Statement statement_rule branch_rule sequential_rule

  -- a branch of an if statement (10.8)
  unfoldable pub branch_of : tree_branch.Branch → Branch
  branch_of = folds.fold-Branch Statement Branch Statement statement_rule branch_rule sequential_rule

  -- a statement with its label
  unfoldable pub sequential_of : tree_sequential.Sequential → Statement
  sequential_of = folds.fold-Sequential Statement Branch Statement statement_rule branch_rule sequential_rule
