-- The value of each expression as an equation, by its variants.
use Rattle.std.proofs.Common.{◌≡◌, ℕ, List, map, Bool, not, fold, sym, ap, ◌∙◌, slice_get}
use Rattle.sim_logic.specs.declared.logic.Logic.{Logic}
use Rattle.sim_logic.specs.Logic.{is_same}
use Rattle.sim_logic.specs.Tables.{not_table}
use Rattle.sim_logic.specs.declared.operator_symbol.Relational.{Relational}
use Rattle.sim_logic.specs.declared.operator_symbol.Logical.{Logical}
use Rattle.sim_flat_design.specs.declared.held.Held.{Held}
use Rattle.sim_flat_design.specs.declared.expression.LogicExpression.{LogicExpression}
use Rattle.sim_flat_design.specs.declared.expression.LogicExpression.TheVariants as l
use Rattle.sim_flat_design.specs.declared.expression.LogicExpression.TheOpen as lo
use Rattle.sim_flat_design.specs.declared.expression.LogicExpression.TheFolds as logic_folds
use Rattle.sim_flat_design.specs.declared.expression.BooleanExpression.{BooleanExpression}
use Rattle.sim_flat_design.specs.declared.expression.BooleanExpression.TheVariants as b
use Rattle.sim_flat_design.specs.declared.expression.BooleanExpression.TheOpen as bo
use Rattle.sim_flat_design.specs.declared.expression.BooleanExpression.TheFolds as boolean_folds
use Rattle.sim_standard.specs.declared.net_view.NetView.{NetView}
use Rattle.sim_standard.specs.Expressions.{logic_operation, boolean_operation, relation, condition, is_same_boolean, bit_of, truth_of, has_edge}
use Rattle.sim_standard.specs.Expressions.{logic_value_rule, logic_value, boolean_value_rule, boolean_value}

module _ (look : ℕ → NetView) (variables : List Held) where
  pub logic_literal : (v : Logic) → logic_value look variables (l.Literal v) ≡ v
  unfolding logic_value
  logic_literal v =
      ap (logic_value look variables) (sym (l.rolls-Literal v))
      ∙ logic_folds.fold-roll-LogicExpression Logic (logic_value_rule look variables) (lo.Literal v)

  pub logic_object : (n : ℕ) → logic_value look variables (l.Object n) ≡ (look n).value
  unfolding logic_value
  logic_object n =
      ap (logic_value look variables) (sym (l.rolls-Object n))
      ∙ logic_folds.fold-roll-LogicExpression Logic (logic_value_rule look variables) (lo.Object n)

  pub logic_variable : (n : ℕ) → logic_value look variables (l.Variable n) ≡ bit_of (slice_get variables n)
  unfolding logic_value
  logic_variable n =
      ap (logic_value look variables) (sym (l.rolls-Variable n))
      ∙ logic_folds.fold-roll-LogicExpression Logic (logic_value_rule look variables) (lo.Variable n)

  pub logic_not : (x : LogicExpression) → logic_value look variables (l.Not x) ≡ not_table (logic_value look variables x)
  unfolding logic_value
  logic_not x =
      ap (logic_value look variables) (sym (l.rolls-Not x))
      ∙ logic_folds.fold-roll-LogicExpression Logic (logic_value_rule look variables) (lo.Not x)

  pub logic_chain : (op : Logical) (x : LogicExpression) (ys : List LogicExpression) → logic_value look variables (l.Chain op x ys)
      ≡ fold (logic_operation op) (logic_value look variables x) (map (logic_value look variables) ys)
  unfolding logic_value
  logic_chain op x ys =
      ap (logic_value look variables) (sym (l.rolls-Chain op x ys))
      ∙ logic_folds.fold-roll-LogicExpression Logic (logic_value_rule look variables) (lo.Chain op x ys)

  pub boolean_literal : (v : Bool) → boolean_value look variables (b.Literal v) ≡ v
  unfolding boolean_value
  boolean_literal v =
      ap (boolean_value look variables) (sym (b.rolls-Literal v))
      ∙ boolean_folds.fold-roll-BooleanExpression Bool (boolean_value_rule look variables) (bo.Literal v)

  pub boolean_variable : (n : ℕ) → boolean_value look variables (b.Variable n) ≡ truth_of (slice_get variables n)
  unfolding boolean_value
  boolean_variable n =
      ap (boolean_value look variables) (sym (b.rolls-Variable n))
      ∙ boolean_folds.fold-roll-BooleanExpression Bool (boolean_value_rule look variables) (bo.Variable n)

  pub boolean_event : (n : ℕ) → boolean_value look variables (b.Event n) ≡ (look n).event
  unfolding boolean_value
  boolean_event n =
      ap (boolean_value look variables) (sym (b.rolls-Event n))
      ∙ boolean_folds.fold-roll-BooleanExpression Bool (boolean_value_rule look variables) (bo.Event n)

  pub boolean_edge : (r : Bool) (n : ℕ) → boolean_value look variables (b.Edge r n) ≡ has_edge r (look n)
  unfolding boolean_value
  boolean_edge r n =
      ap (boolean_value look variables) (sym (b.rolls-Edge r n))
      ∙ boolean_folds.fold-roll-BooleanExpression Bool (boolean_value_rule look variables) (bo.Edge r n)

  pub boolean_not : (x : BooleanExpression) → boolean_value look variables (b.Not x) ≡ not (boolean_value look variables x)
  unfolding boolean_value
  boolean_not x =
      ap (boolean_value look variables) (sym (b.rolls-Not x))
      ∙ boolean_folds.fold-roll-BooleanExpression Bool (boolean_value_rule look variables) (bo.Not x)

  pub boolean_chain : (op : Logical) (x : BooleanExpression) (ys : List BooleanExpression) → boolean_value look variables (b.Chain op x ys)
      ≡ fold (boolean_operation op) (boolean_value look variables x) (map (boolean_value look variables) ys)
  unfolding boolean_value
  boolean_chain op x ys =
      ap (boolean_value look variables) (sym (b.rolls-Chain op x ys))
      ∙ boolean_folds.fold-roll-BooleanExpression Bool (boolean_value_rule look variables) (bo.Chain op x ys)

  pub condition_taken : (x : LogicExpression) → boolean_value look variables (b.Condition x) ≡ condition (logic_value look variables x)
  unfolding boolean_value
  condition_taken x =
      ap (boolean_value look variables) (sym (b.rolls-Condition x))
      ∙ boolean_folds.fold-roll-BooleanExpression Bool (boolean_value_rule look variables) (bo.Condition x)

  pub logics_compared : (x : LogicExpression) (op : Relational) (y : LogicExpression) → boolean_value look variables (b.LogicComparison x op y)
      ≡ relation op (is_same (logic_value look variables x) (logic_value look variables y))
  unfolding boolean_value
  logics_compared x op y =
      ap (boolean_value look variables) (sym (b.rolls-LogicComparison x op y))
      ∙ boolean_folds.fold-roll-BooleanExpression Bool (boolean_value_rule look variables) (bo.LogicComparison x op y)

  pub booleans_compared : (x : BooleanExpression) (op : Relational) (y : BooleanExpression)
      → boolean_value look variables (b.BooleanComparison x op y)
      ≡ relation op (is_same_boolean (boolean_value look variables x) (boolean_value look variables y))
  unfolding boolean_value
  booleans_compared x op y =
      ap (boolean_value look variables) (sym (b.rolls-BooleanComparison x op y))
      ∙ boolean_folds.fold-roll-BooleanExpression Bool (boolean_value_rule look variables) (bo.BooleanComparison x op y)

-- the rules for type std_ulogic
pub ruleset logics_are = (logic_literal, logic_object, logic_variable, logic_not, logic_chain)

-- the rules for type boolean
pub ruleset booleans_are = (
  boolean_literal,
  boolean_variable,
  boolean_event,
  boolean_edge,
  boolean_not,
  boolean_chain,
  condition_taken,
  logics_compared,
  booleans_compared,
)
