-- The faults of assignments, sequences of statements and sensitivity lists (IEEE 1076-2008, 10 and 11).
use Rattle.std.specs.Prelude.{ℕ, List, [], ◌∷◌, ◌++◌, Option, Some, None}
use Rattle.sim_text_tree.specs.Name.{Name}
use Rattle.sim_text_tree.specs.declared.declaration.Mode.TheVariants.{In}
use Rattle.sim_text_tree.specs.declared.waveform.ConcurrentSignalAssignment.{ConcurrentSignalAssignment}
use Rattle.sim_text_tree.specs.declared.sequential.SignalAssignment.{SignalAssignment}
use Rattle.sim_text_tree.specs.declared.sequential.VariableAssignment.{VariableAssignment}
use Rattle.sim_text_tree.specs.declared.sequential.Statement.{Statement}
use Rattle.sim_text_tree.specs.declared.sequential.Statement.TheOpen as s
use Rattle.sim_text_tree.specs.declared.sequential.Statement.TheFolds as folds
use Rattle.sim_text_tree.specs.declared.sequential.Sequential.{Sequential}
use Rattle.sim_text_tree.specs.declared.sequential.Branch.{Branch}
use Rattle.sim_text_tree.specs.declared.unit.Sensitivity.{Sensitivity}
use Rattle.sim_text_tree.specs.declared.unit.Sensitivity.TheVariants as sensitivity
use Rattle.sim_flat_scope.specs.declared.scope.Meaning.{Meaning}
use Rattle.sim_flat_scope.specs.declared.scope.Meaning.TheVariants as m
use Rattle.sim_flat_scope.specs.declared.scope.Type as ty
use Rattle.sim_flat_scope.specs.declared.fault.Kind.TheVariants as k
use Rattle.sim_flat_scope.specs.declared.fault.Fault.{Fault}
use Rattle.sim_flat_scope.specs.Faults.{fault}
use Rattle.sim_flat_scope.specs.Scopes.{Lookup}
use Rattle.sim_flat_check.specs.Types.{signal_read}
use Rattle.sim_flat_check.specs.Waveforms.{condition_faults, value_faults, waveform_faults, waveforms_faults}

-- ---- targets

-- The target of a signal assignment is a signal, or a port that is not of mode in (10.5.2.1).
unfoldable pub signal_target_faults : ℕ → Option Meaning → List Fault
signal_target_faults at None = fault k.Unknown at
signal_target_faults at (Some (m.Port object In t)) = fault k.WriteIn at
signal_target_faults at (Some (m.Port object mode t)) = []
signal_target_faults at (Some (m.Signal object t)) = []
signal_target_faults at (Some _) = fault k.WrongKind at

-- the type of a target that is a port or a signal
abbrev pub signal_type : Option Meaning → Option ty.Type
signal_type (Some (m.Port object mode t)) = t
signal_type (Some (m.Signal object t)) = t
signal_type _ = None

-- The target of a variable assignment is a variable (10.6.2.1).
unfoldable pub variable_target_faults : ℕ → Option Meaning → List Fault
variable_target_faults at None = fault k.Unknown at
variable_target_faults at (Some (m.Variable place t)) = []
variable_target_faults at (Some _) = fault k.WrongKind at

-- the type of a target that is a variable
abbrev pub variable_type : Option Meaning → Option ty.Type
variable_type (Some (m.Variable place t)) = t
variable_type _ = None

module _ (look : Lookup) where
  -- ---- assignments

  -- the faults of a concurrent signal assignment (11.6)
  unfoldable pub concurrent_assignment_faults : ConcurrentSignalAssignment → List Fault
  concurrent_assignment_faults a = signal_target_faults a.target.at (look a.target.text)
      ++ waveforms_faults look a.delay (signal_type (look a.target.text)) a.waveforms

  -- the faults of a signal assignment in a process (10.5.2)
  unfoldable pub signal_assignment_faults : SignalAssignment → List Fault
  signal_assignment_faults a = signal_target_faults a.target.at (look a.target.text)
      ++ waveform_faults look a.delay (signal_type (look a.target.text)) a.waveform

  -- the faults of a variable assignment (10.6)
  unfoldable pub variable_assignment_faults : VariableAssignment → List Fault
  variable_assignment_faults a = variable_target_faults a.target.at (look a.target.text)
      ++ value_faults look (variable_type (look a.target.text)) a.value

  -- ---- sequences of statements (10.1)

  -- the faults of each
  abbrev pub each : List (List Fault) → List Fault
  each [] = []
  each (x ∷ xs) = x ++ each xs

  -- the faults of the statements after `else`, if it is written
  abbrev pub else_rule : Option (List (List Fault)) → List Fault
  else_rule None = []
  else_rule (Some statements) = each statements

  -- a statement, from the faults of its parts: of an if statement, its branches and the statements after `else` (10.8)
  abbrev pub statement_rule : s.Statement-F (List Fault) (List Fault) (List Fault) → List Fault
  statement_rule (s.Signal a) = signal_assignment_faults a
  statement_rule (s.Variable a) = variable_assignment_faults a
  statement_rule (s.If branches otherwise again) = each branches ++ else_rule otherwise
  statement_rule s.Null = []

  -- a condition, and statements
  abbrev pub branch_rule : s.Branch-F (List Fault) (List Fault) (List Fault) → List Fault
  branch_rule b = condition_faults look b.condition ++ each b.statements

  -- a label has no faults here
  abbrev pub sequential_rule : s.Sequential-F (List Fault) (List Fault) (List Fault) → List Fault
  sequential_rule x = x.statement

  -- the faults of a statement
  unfoldable pub statement_faults : Statement → List Fault
  statement_faults = folds.fold-Statement (List Fault) (List Fault) (List Fault) statement_rule branch_rule sequential_rule

  -- the faults of a branch of an if statement
  unfoldable pub branch_faults : Branch → List Fault
  branch_faults = folds.fold-Branch (List Fault) (List Fault) (List Fault) statement_rule branch_rule sequential_rule

  -- the faults of a statement, with or without a label
  unfoldable pub sequential_faults : Sequential → List Fault
  sequential_faults = folds.fold-Sequential (List Fault) (List Fault) (List Fault) statement_rule branch_rule sequential_rule

  -- the faults of a sequence of statements
  unfoldable pub sequence_faults : List Sequential → List Fault
  sequence_faults [] = []
  sequence_faults (x ∷ xs) = sequential_faults x ++ sequence_faults xs

  -- the faults of branches
  unfoldable pub branches_faults : List Branch → List Fault
  branches_faults [] = []
  branches_faults (b ∷ bs) = branch_faults b ++ branches_faults bs

  -- the faults of the statements after `else`, if it is written
  abbrev pub else_faults : Option (List Sequential) → List Fault
  else_faults None = []
  else_faults (Some statements) = sequence_faults statements

  -- ---- sensitivity lists (10.2)

  -- the faults of the names in a sensitivity list
  unfoldable pub signals_read : List Name → List Fault
  signals_read [] = []
  signals_read (n ∷ ns) = signal_read n.at (look n.text) ++ signals_read ns

  -- the faults of a sensitivity list: `all` has none
  unfoldable pub sensitivity_faults : Sensitivity → List Fault
  sensitivity_faults sensitivity.All = []
  sensitivity_faults (sensitivity.Names ns) = signals_read ns
