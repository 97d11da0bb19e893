-- The statements of several processes of one cycle, interleaved in any way (IEEE 1076-2008, 14.7.5.3).
use Rattle.std.specs.Prelude.{ℕ, suc, ◌≡◌, List, [], ◌∷◌, ◌++◌, Bool, if◌then◌else◌, Option, Some, None, slice_index_or, slice_set}
use Rattle.sim_flat_design.specs.declared.held.Held.{Held}
use Rattle.sim_flat_design.specs.declared.statement.ConditionalWaveform.{ConditionalWaveform}
use Rattle.sim_flat_design.specs.declared.statement.SignalAssignment.{SignalAssignment}
use Rattle.sim_flat_design.specs.declared.statement.Branch.{Branch}
use Rattle.sim_flat_design.specs.declared.statement.Statement.{Statement}
use Rattle.sim_flat_design.specs.declared.statement.Statement.TheVariants as statement
use Rattle.sim_flat_design.specs.declared.statement.Statement.TheOpen as s
use Rattle.sim_flat_design.specs.declared.statement.Statement.TheViews as views
use Rattle.sim_flat_design.specs.Processes.{Process}
use Rattle.sim_standard.specs.declared.net_view.NetView.{NetView}
use Rattle.sim_standard.specs.State.{State, owned_at}
use Rattle.sim_standard.specs.Statements.{statement_done}
use Rattle.sim_standard.specs.Expressions.{boolean_value, taken_waveform}
use Rattle.sim_standard.specs.Processes.{seen, object_net, state_steps, process_at}

-- ---- what replaces a statement, given what its process sees of its ports and signals and what its variables hold

module _ (look : ℕ → NetView) (variables : List Held) where
  -- the statements of the first branch whose condition holds, else the last ones (10.8)
  unfoldable pub taken_statements : List Branch → List Statement → List Statement
  taken_statements [] otherwise = otherwise
  taken_statements (b ∷ bs) otherwise =
      if boolean_value look variables (views.out-Branch b).condition then (views.out-Branch b).statements else taken_statements bs otherwise

  -- the assignment without a condition that a conditional one selects (10.5.3)
  abbrev pub selected_assignment : SignalAssignment → List ConditionalWaveform → Option (List Statement)
  selected_assignment a [] = None
  selected_assignment a (c ∷ cs) =
      Some (statement.Signal (record a { conditional = []; otherwise = taken_waveform look variables a.conditional a.otherwise }) ∷ [])

  abbrev pub selected_rule : s.Statement-F Statement Branch → Option (List Statement)
  selected_rule (s.Signal a) = selected_assignment a a.conditional
  selected_rule (s.If branches otherwise) = Some (taken_statements branches otherwise)
  selected_rule _ = None

  -- what a statement selects: statements if it is an if statement, an assignment if it is a conditional one, else none: it is carried out at once
  abbrev pub selected : Statement → Option (List Statement)
  selected x = selected_rule (views.out-Statement x)

-- ---- interleaving

-- what a statement of the process with a number selects in a state
abbrev pub selected_in : Process → ℕ → State → Statement → Option (List Statement)
selected_in process p s x = selected (seen (object_net process) s) (owned_at s.owned p).variables x

-- what a process has to do
abbrev pub to_do : List (List Statement) → ℕ → List Statement
to_do todo p = slice_index_or todo p []

-- Some order of steps leads from one state to another, if each process has these statements to do. A step takes any process and its first statement: an
-- assignment is carried out on the whole state, a null statement is dropped, and an if statement or a conditional assignment is replaced by what it selects.
pub data Interleaved (processes : List Process) : State → List (List Statement) → State → Type 0 where
  Over : (s : State) (todo : List (List Statement)) → ((p : ℕ) → to_do todo p ≡ []) → Interleaved processes s todo s
  Carries_out : (s t : State) (todo : List (List Statement)) (p : ℕ) (x : Statement) (rest : List Statement)
      → to_do todo p ≡ x ∷ rest
      → selected_in (process_at processes p) p s x ≡ None
      → Interleaved processes (statement_done (state_steps (object_net (process_at processes p)) p) x s) (slice_set todo p rest) t
      → Interleaved processes s todo t
  Selects : (s t : State) (todo : List (List Statement)) (p : ℕ) (x : Statement) (rest chosen : List Statement)
      → to_do todo p ≡ x ∷ rest
      → selected_in (process_at processes p) p s x ≡ Some chosen
      → Interleaved processes s (slice_set todo p (chosen ++ rest)) t
      → Interleaved processes s todo t

-- at first each process of a set has its whole body to do
unfoldable pub bodies : (ℕ → Bool) → ℕ → List Process → List (List Statement)
bodies set p [] = []
bodies set p (process ∷ processes) = (if set p then process.body.statements else []) ∷ bodies set (suc p) processes
