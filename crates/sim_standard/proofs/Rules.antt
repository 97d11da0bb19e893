-- What each statement leaves as an equation, by its variants.
use Rattle.std.proofs.Common.{◌≡◌, ℕ, List, map, sym, ap, ◌∙◌}
use Rattle.sim_flat_design.specs.declared.expression.LogicExpression.{LogicExpression}
use Rattle.sim_flat_design.specs.declared.expression.BooleanExpression.{BooleanExpression}
use Rattle.sim_flat_design.specs.declared.statement.SignalAssignment.{SignalAssignment}
use Rattle.sim_flat_design.specs.declared.statement.Branch.{Branch}
use Rattle.sim_flat_design.specs.declared.statement.Statement.{Statement}
use Rattle.sim_flat_design.specs.declared.statement.Statement.TheVariants as s
use Rattle.sim_flat_design.specs.declared.statement.Statement.TheOpen as so
use Rattle.sim_flat_design.specs.declared.statement.Statement.TheViews as views
use Rattle.sim_flat_design.specs.declared.statement.Statement.TheFolds as folds
use Rattle.sim_standard.specs.Statements.{Steps, Guarded, in_turn, if_taken, statement_rule, branch_rule, statement_done, branch_done}

module _ {S : Type 0} (steps : Steps S) (x : S) where
  pub signal_done : (a : SignalAssignment) → statement_done steps (s.Signal a) x ≡ steps.signal a x
  unfolding statement_done
  signal_done a = ap (λ (y : Statement). statement_done steps y x) (sym (s.rolls-Signal a))
      ∙ ap (λ (f : S → S). f x) (folds.fold-roll-Statement (S → S) (Guarded S) (statement_rule steps) (branch_rule steps) (so.Signal a))

  pub logic_variable_done : (place : ℕ) (value : LogicExpression) → statement_done steps (s.LogicVariable place value) x ≡ steps.logic_variable place value x
  unfolding statement_done
  logic_variable_done place value = ap (λ (y : Statement). statement_done steps y x) (sym (s.rolls-LogicVariable place value))
      ∙ ap (λ (f : S → S). f x) (folds.fold-roll-Statement (S → S) (Guarded S) (statement_rule steps) (branch_rule steps) (so.LogicVariable place value))

  pub boolean_variable_done : (place : ℕ) (value : BooleanExpression) → statement_done steps (s.BooleanVariable place value) x
      ≡ steps.boolean_variable place value x
  unfolding statement_done
  boolean_variable_done place value = ap (λ (y : Statement). statement_done steps y x) (sym (s.rolls-BooleanVariable place value))
      ∙ ap (λ (f : S → S). f x) (folds.fold-roll-Statement (S → S) (Guarded S) (statement_rule steps) (branch_rule steps) (so.BooleanVariable place value))

  pub if_done : (branches : List Branch) (otherwise : List Statement) → statement_done steps (s.If branches otherwise) x
      ≡ if_taken (map (branch_done steps) branches) (in_turn (map (statement_done steps) otherwise)) x
  unfolding statement_done branch_done
  if_done branches otherwise = ap (λ (y : Statement). statement_done steps y x) (sym (s.rolls-If branches otherwise))
      ∙ ap (λ (f : S → S). f x) (folds.fold-roll-Statement (S → S) (Guarded S) (statement_rule steps) (branch_rule steps) (so.If branches otherwise))

  pub null_done : statement_done steps s.Null x ≡ x
  unfolding statement_done
  null_done = ap (λ (y : Statement). statement_done steps y x) (sym s.rolls-Null)
      ∙ ap (λ (f : S → S). f x) (folds.fold-roll-Statement (S → S) (Guarded S) (statement_rule steps) (branch_rule steps) so.Null)

-- a branch: its condition, and its statements in turn
pub branch_is : {S : Type 0} (steps : Steps S) (b : Branch) → branch_done steps b
    ≡ record { holds = steps.holds (views.out-Branch b).condition; carried_out = in_turn (map (statement_done steps) (views.out-Branch b).statements) }
unfolding branch_done statement_done
branch_is {S} steps b = folds.fold_out-Branch (S → S) (Guarded S) (statement_rule steps) (branch_rule steps) b

-- those of statements
pub ruleset statements_are = (signal_done, logic_variable_done, boolean_variable_done, if_done, null_done)
