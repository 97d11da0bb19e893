-- How statements are executed (IEEE 1076-2008, 10): one after another, on whatever their steps change.
use Rattle.std.specs.Prelude.{ℕ, List, [], ◌∷◌, Bool, if◌then◌else◌, map, slice_set}
use Rattle.std.specs.Option.{option_map_or}
use Rattle.sim_flat_design.specs.declared.held.Held.TheVariants as held
use Rattle.sim_flat_design.specs.declared.expression.LogicExpression.{LogicExpression}
use Rattle.sim_flat_design.specs.declared.expression.BooleanExpression.{BooleanExpression}
use Rattle.sim_flat_design.specs.declared.waveform.Element.{Element}
use Rattle.sim_flat_design.specs.declared.statement.Delay.{Delay}
use Rattle.sim_flat_design.specs.declared.statement.Delay.TheVariants as mechanism
use Rattle.sim_flat_design.specs.declared.statement.SignalAssignment.{SignalAssignment}
use Rattle.sim_flat_design.specs.declared.statement.Statement.{Statement}
use Rattle.sim_flat_design.specs.declared.statement.Branch.{Branch}
use Rattle.sim_flat_design.specs.declared.statement.Statement.TheOpen as s
use Rattle.sim_flat_design.specs.declared.statement.Statement.TheFolds as folds
use Rattle.sim_standard.specs.Drivers.{Transaction, DriverState, transaction_at}
use Rattle.sim_standard.specs.Editing.{edited}
use Rattle.sim_standard.specs.declared.delay.Delay.{Delay as WaveDelay}
use Rattle.sim_standard.specs.declared.delay.Delay.TheVariants.{Transport, Inertial}
use Rattle.sim_standard.specs.declared.net_view.NetView.{NetView}
use Rattle.sim_standard.specs.State.{Owned, driver_at}
use Rattle.sim_standard.specs.Expressions.{boolean_value, logic_value, element_values, taken_waveform}

-- ---- statements

-- The steps that statements consist of, on what they change: whether a condition holds, and what an assignment leaves.
pub record Steps (S : Type 0) : Type 0 where
  pub holds : BooleanExpression → S → Bool
  pub signal : SignalAssignment → S → S
  pub logic_variable : ℕ → LogicExpression → S → S
  pub boolean_variable : ℕ → BooleanExpression → S → S

-- a branch of an if statement: whether it is taken, and what its statements leave
pub record Guarded (S : Type 0) : Type 0 where
  pub holds : S → Bool
  pub carried_out : S → S

-- statements one after another
unfoldable pub in_turn : {S : Type 0} → List (S → S) → S → S
in_turn [] x = x
in_turn (f ∷ fs) x = in_turn fs (f x)

-- the first branch whose condition holds, else the last statements (10.8)
unfoldable pub if_taken : {S : Type 0} → List (Guarded S) → (S → S) → S → S
if_taken [] otherwise x = otherwise x
if_taken (g ∷ gs) otherwise x = if g.holds x then g.carried_out x else if_taken gs otherwise x

module _ {S : Type 0} (steps : Steps S) where
  abbrev pub statement_rule : s.Statement-F (S → S) (Guarded S) → S → S
  statement_rule (s.Signal a) x = steps.signal a x
  statement_rule (s.LogicVariable place value) x = steps.logic_variable place value x
  statement_rule (s.BooleanVariable place value) x = steps.boolean_variable place value x
  statement_rule (s.If branches otherwise) x = if_taken branches (in_turn otherwise) x
  statement_rule s.Null x = x

  abbrev pub branch_rule : s.Branch-F (S → S) (Guarded S) → Guarded S
  branch_rule b = record { holds = steps.holds b.condition; carried_out = in_turn b.statements }

  -- what a statement leaves
  unfoldable pub statement_done : Statement → S → S
  statement_done = folds.fold-Statement (S → S) (Guarded S) statement_rule branch_rule

  unfoldable pub branch_done : Branch → Guarded S
  branch_done = folds.fold-Branch (S → S) (Guarded S) statement_rule branch_rule

  -- what a sequence of statements leaves
  abbrev pub carried_out : List Statement → S → S
  carried_out statements x = in_turn (map statement_done statements) x

-- ---- what they leave of what a process owns, given what it sees of its ports and signals and the time

-- how an assignment with this delay mechanism treats pending transactions, given the delay of its first element: without `reject`, that delay is the rejection
-- limit (10.5.2.1)
abbrev pub delay_of : Delay → ℕ → WaveDelay
delay_of mechanism.Transport first = Transport
delay_of mechanism.Inertial first = Inertial first
delay_of (mechanism.Reject limit) first = Inertial limit

-- a driver after these elements have been assigned to it (10.5.2.2)
abbrev pub assigned : ℕ → Delay → List Transaction → DriverState → DriverState
assigned now mechanism elements d = record d { pending = edited d.pending now (delay_of mechanism (transaction_at elements 0).0) elements }

module _ (look : ℕ → NetView) (now : ℕ) where
  -- the steps: a signal assignment edits its driver at once (10.5.2.2), a variable assignment its variable (10.6)
  abbrev pub own_steps : Steps Owned
  own_steps = record {
    holds = λ condition own. boolean_value look own.variables condition;
    signal = λ a own. option_map_or
        (λ (elements : List Element).
        let driver = assigned now a.delay (element_values look own.variables elements) (driver_at own.drivers a.driver) in
        record own { drivers = slice_set own.drivers a.driver driver })
        (taken_waveform look own.variables a.conditional a.otherwise) own;
    logic_variable = λ place value own. record own { variables = slice_set own.variables place (held.Bit (logic_value look own.variables value)) };
    boolean_variable = λ place value own. record own { variables = slice_set own.variables place (held.Truth (boolean_value look own.variables value)) };
  }

  -- what a process owns after its statements have been executed
  unfoldable pub executed : List Statement → Owned → Owned
  executed statements own = carried_out own_steps statements own
