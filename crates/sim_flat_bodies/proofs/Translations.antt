-- The translation of each expression, as an equation, by its variants.
use Rattle.std.proofs.Common.{◌≡◌, ℕ, List, [], ◌∷◌, map, true, false, refl, sym, ap, ◌∙◌}
use Rattle.sim_logic.specs.declared.logic.Logic.{Logic}
use Rattle.sim_logic.specs.declared.logic.Logic.TheVariants as value
use Rattle.sim_flat_scope.specs.Scopes.{Lookup}
use Rattle.sim_text_tree.specs.Name.{Name}
use Rattle.sim_logic.specs.declared.operator_symbol.Relational.{Relational}
use Rattle.sim_logic.specs.declared.operator_symbol.Logical.{Logical}
use Rattle.sim_text_tree.specs.declared.expression.Operand.{Operand}
use Rattle.sim_text_tree.specs.declared.expression.Expression.{Expression}
use Rattle.sim_text_tree.specs.declared.expression.Expression.TheVariants as e
use Rattle.sim_text_tree.specs.declared.expression.Expression.TheOpen as o
use Rattle.sim_text_tree.specs.declared.expression.Expression.TheFolds as folds
use Rattle.sim_text_tree.specs.declared.expression.Expression.TheViews as views
use Rattle.sim_flat_design.specs.declared.expression.LogicExpression.TheVariants as logic
use Rattle.sim_flat_design.specs.declared.expression.BooleanExpression.TheVariants as boolean
use Rattle.sim_flat_bodies.specs.Expressions.{Translated, a_logic, a_boolean, named, event_of, edge_of, compared, logics, booleans, operand_rule}
use Rattle.sim_flat_bodies.specs.Expressions.{expression_rule}
use Rattle.sim_flat_bodies.specs.Expressions.{translated, translated_operand, is_boolean, logic_of, boolean_of, operand_logic, operand_boolean}

module _ (look : Lookup) where
  pub literal_is : (v : Logic) (at : ℕ) → translated look (e.Literal v at) ≡ a_logic (logic.Literal v)
  unfolding translated
  literal_is v at = ap (translated look) (sym (e.rolls-Literal v at))
      ∙ folds.fold-roll-Expression Translated Translated (expression_rule look) operand_rule (o.Literal v at)

  pub name_is : (n : Name) → translated look (e.Named n) ≡ named (look n.text)
  unfolding translated
  name_is n = ap (translated look) (sym (e.rolls-Named n)) ∙ folds.fold-roll-Expression Translated Translated (expression_rule look) operand_rule
      (o.Named n)

  pub event_is : (n : Name) → translated look (e.Event n) ≡ a_boolean (event_of (look n.text))
  unfolding translated
  event_is n = ap (translated look) (sym (e.rolls-Event n)) ∙ folds.fold-roll-Expression Translated Translated (expression_rule look) operand_rule
      (o.Event n)

  pub call_is : (f a : Name) → translated look (e.Call f a) ≡ a_boolean (edge_of (look f.text) (look a.text))
  unfolding translated
  call_is f a = ap (translated look) (sym (e.rolls-Call f a))
      ∙ folds.fold-roll-Expression Translated Translated (expression_rule look) operand_rule (o.Call f a)

  pub parenthesized_is : (at : ℕ) (x : Expression) → translated look (e.Parenthesized at x) ≡ translated look x
  unfolding translated
  parenthesized_is at x = ap (translated look) (sym (e.rolls-Parenthesized at x))
      ∙ folds.fold-roll-Expression Translated Translated (expression_rule look) operand_rule (o.Parenthesized at x)

  pub not_is : (at : ℕ) (x : Expression) → translated look (e.Not at x) ≡ record {
    is_boolean = (translated look x).is_boolean;
    logic =
        logic.Not (translated look x).logic;
    boolean = boolean.Not (translated look x).boolean;
  }
  unfolding translated
  not_is at x = ap (translated look) (sym (e.rolls-Not at x))
      ∙ folds.fold-roll-Expression Translated Translated (expression_rule look) operand_rule (o.Not at x)

  pub condition_is : (at : ℕ) (x : Expression) → translated look (e.Condition at x) ≡ a_boolean (boolean.Condition (translated look x).logic)
  unfolding translated
  condition_is at x = ap (translated look) (sym (e.rolls-Condition at x))
      ∙ folds.fold-roll-Expression Translated Translated (expression_rule look) operand_rule (o.Condition at x)

  pub comparison_is : (x : Expression) (b : Relational) (at : ℕ) (y : Expression) → translated look (e.Comparison x b at y)
      ≡ a_boolean (compared (translated look x) b (translated look y))
  unfolding translated
  comparison_is x b at y = ap (translated look) (sym (e.rolls-Comparison x b at y))
      ∙ folds.fold-roll-Expression Translated Translated (expression_rule look) operand_rule (o.Comparison x b at y)

  operands_logic : (os : List Operand) → logics (map (translated_operand look) os) ≡ map (operand_logic look) os
  unfolding logics operand_logic
  operands_logic [] = refl
  operands_logic (x ∷ xs) = ap (λ ls. (translated_operand look x).logic ∷ ls) (operands_logic xs)

  operands_boolean : (os : List Operand) → booleans (map (translated_operand look) os) ≡ map (operand_boolean look) os
  unfolding booleans operand_boolean
  operands_boolean [] = refl
  operands_boolean (x ∷ xs) = ap (λ ls. (translated_operand look x).boolean ∷ ls) (operands_boolean xs)

  chain_is : (b : Logical) (x : Expression) (os : List Operand) → translated look (e.Chain b x os) ≡ record {
    is_boolean = (translated look x).is_boolean;
    logic = logic.Chain b (translated look x).logic (logics (map (translated_operand look) os));
    boolean = boolean.Chain b (translated look x).boolean (booleans (map (translated_operand look) os));
  }
  unfolding translated translated_operand
  chain_is b x os = ap (translated look) (sym (e.rolls-Chain b x os))
      ∙ folds.fold-roll-Expression Translated Translated (expression_rule look) operand_rule (o.Chain b x os)

  pub operand_logic_of : (x : Operand) → operand_logic look x ≡ logic_of look (views.out-Operand x).operand
  unfolding operand_logic logic_of translated translated_operand
  operand_logic_of x =
      ap (λ (t : Translated). t.logic) (folds.fold_out-Operand Translated Translated (expression_rule look) operand_rule x)

  pub operand_boolean_of : (x : Operand) → operand_boolean look x ≡ boolean_of look (views.out-Operand x).operand
  unfolding operand_boolean boolean_of translated translated_operand
  operand_boolean_of x =
      ap (λ (t : Translated). t.boolean) (folds.fold_out-Operand Translated Translated (expression_rule look) operand_rule x)

  pub literal_is_boolean : (v : Logic) (at : ℕ) → is_boolean look (e.Literal v at) ≡ false
  unfolding is_boolean logic_of boolean_of
  literal_is_boolean v at = ap (λ (t : Translated). t.is_boolean) (literal_is v at)

  pub name_is_boolean : (n : Name) → is_boolean look (e.Named n) ≡ (named (look n.text)).is_boolean
  unfolding is_boolean logic_of boolean_of
  name_is_boolean n = ap (λ (t : Translated). t.is_boolean) (name_is n)

  pub event_is_boolean : (n : Name) → is_boolean look (e.Event n) ≡ true
  unfolding is_boolean logic_of boolean_of
  event_is_boolean n = ap (λ (t : Translated). t.is_boolean) (event_is n)

  pub call_is_boolean : (f a : Name) → is_boolean look (e.Call f a) ≡ true
  unfolding is_boolean logic_of boolean_of
  call_is_boolean f a = ap (λ (t : Translated). t.is_boolean) (call_is f a)

  pub parenthesized_is_boolean : (at : ℕ) (x : Expression) → is_boolean look (e.Parenthesized at x) ≡ is_boolean look x
  unfolding is_boolean logic_of boolean_of
  parenthesized_is_boolean at x = ap (λ (t : Translated). t.is_boolean) (parenthesized_is at x)

  pub not_is_boolean : (at : ℕ) (x : Expression) → is_boolean look (e.Not at x) ≡ is_boolean look x
  unfolding is_boolean logic_of boolean_of
  not_is_boolean at x = ap (λ (t : Translated). t.is_boolean) (not_is at x)

  pub condition_is_boolean : (at : ℕ) (x : Expression) → is_boolean look (e.Condition at x) ≡ true
  unfolding is_boolean logic_of boolean_of
  condition_is_boolean at x = ap (λ (t : Translated). t.is_boolean) (condition_is at x)

  pub comparison_is_boolean : (x : Expression) (b : Relational) (at : ℕ) (y : Expression) → is_boolean look (e.Comparison x b at y) ≡ true
  unfolding is_boolean logic_of boolean_of
  comparison_is_boolean x b at y = ap (λ (t : Translated). t.is_boolean) (comparison_is x b at y)

  pub literal_logic_of : (v : Logic) (at : ℕ) → logic_of look (e.Literal v at) ≡ logic.Literal v
  unfolding is_boolean logic_of boolean_of
  literal_logic_of v at = ap (λ (t : Translated). t.logic) (literal_is v at)

  pub name_logic_of : (n : Name) → logic_of look (e.Named n) ≡ (named (look n.text)).logic
  unfolding is_boolean logic_of boolean_of
  name_logic_of n = ap (λ (t : Translated). t.logic) (name_is n)

  pub event_logic_of : (n : Name) → logic_of look (e.Event n) ≡ logic.Literal value.U
  unfolding is_boolean logic_of boolean_of
  event_logic_of n = ap (λ (t : Translated). t.logic) (event_is n)

  pub call_logic_of : (f a : Name) → logic_of look (e.Call f a) ≡ logic.Literal value.U
  unfolding is_boolean logic_of boolean_of
  call_logic_of f a = ap (λ (t : Translated). t.logic) (call_is f a)

  pub parenthesized_logic_of : (at : ℕ) (x : Expression) → logic_of look (e.Parenthesized at x) ≡ logic_of look x
  unfolding is_boolean logic_of boolean_of
  parenthesized_logic_of at x = ap (λ (t : Translated). t.logic) (parenthesized_is at x)

  pub not_logic_of : (at : ℕ) (x : Expression) → logic_of look (e.Not at x) ≡ logic.Not (logic_of look x)
  unfolding is_boolean logic_of boolean_of
  not_logic_of at x = ap (λ (t : Translated). t.logic) (not_is at x)

  pub condition_logic_of : (at : ℕ) (x : Expression) → logic_of look (e.Condition at x) ≡ logic.Literal value.U
  unfolding is_boolean logic_of boolean_of
  condition_logic_of at x = ap (λ (t : Translated). t.logic) (condition_is at x)

  pub comparison_logic_of : (x : Expression) (b : Relational) (at : ℕ) (y : Expression) → logic_of look (e.Comparison x b at y) ≡ logic.Literal value.U
  unfolding is_boolean logic_of boolean_of
  comparison_logic_of x b at y = ap (λ (t : Translated). t.logic) (comparison_is x b at y)

  pub literal_boolean_of : (v : Logic) (at : ℕ) → boolean_of look (e.Literal v at) ≡ boolean.Literal false
  unfolding is_boolean logic_of boolean_of
  literal_boolean_of v at = ap (λ (t : Translated). t.boolean) (literal_is v at)

  pub name_boolean_of : (n : Name) → boolean_of look (e.Named n) ≡ (named (look n.text)).boolean
  unfolding is_boolean logic_of boolean_of
  name_boolean_of n = ap (λ (t : Translated). t.boolean) (name_is n)

  pub event_boolean_of : (n : Name) → boolean_of look (e.Event n) ≡ event_of (look n.text)
  unfolding is_boolean logic_of boolean_of
  event_boolean_of n = ap (λ (t : Translated). t.boolean) (event_is n)

  pub call_boolean_of : (f a : Name) → boolean_of look (e.Call f a) ≡ edge_of (look f.text) (look a.text)
  unfolding is_boolean logic_of boolean_of
  call_boolean_of f a = ap (λ (t : Translated). t.boolean) (call_is f a)

  pub parenthesized_boolean_of : (at : ℕ) (x : Expression) → boolean_of look (e.Parenthesized at x) ≡ boolean_of look x
  unfolding is_boolean logic_of boolean_of
  parenthesized_boolean_of at x = ap (λ (t : Translated). t.boolean) (parenthesized_is at x)

  pub not_boolean_of : (at : ℕ) (x : Expression) → boolean_of look (e.Not at x) ≡ boolean.Not (boolean_of look x)
  unfolding is_boolean logic_of boolean_of
  not_boolean_of at x = ap (λ (t : Translated). t.boolean) (not_is at x)

  pub condition_boolean_of : (at : ℕ) (x : Expression) → boolean_of look (e.Condition at x) ≡ boolean.Condition (logic_of look x)
  unfolding is_boolean logic_of boolean_of
  condition_boolean_of at x = ap (λ (t : Translated). t.boolean) (condition_is at x)

  pub chain_is_boolean : (b : Logical) (x : Expression) (os : List Operand) → is_boolean look (e.Chain b x os) ≡ is_boolean look x
  unfolding is_boolean
  chain_is_boolean b x os = ap (λ (t : Translated). t.is_boolean) (chain_is b x os)

  pub chain_logic_of : (b : Logical) (x : Expression) (os : List Operand) →
      logic_of look (e.Chain b x os) ≡ logic.Chain b (logic_of look x) (map (operand_logic look) os)
  unfolding logic_of
  chain_logic_of b x os =
      ap (λ (t : Translated). t.logic) (chain_is b x os) ∙ ap (logic.Chain b (translated look x).logic) (operands_logic os)

  pub chain_boolean_of : (b : Logical) (x : Expression) (os : List Operand) →
      boolean_of look (e.Chain b x os) ≡ boolean.Chain b (boolean_of look x) (map (operand_boolean look) os)
  unfolding boolean_of
  chain_boolean_of b x os =
      ap (λ (t : Translated). t.boolean) (chain_is b x os) ∙ ap (boolean.Chain b (translated look x).boolean) (operands_boolean os)

  pub booleans_compared : (x : Expression) (b : Relational) (at : ℕ) (y : Expression) → is_boolean look x ≡ true →
      boolean_of look (e.Comparison x b at y) ≡ boolean.BooleanComparison (boolean_of look x) b (boolean_of look y)
  unfolding is_boolean boolean_of
  booleans_compared x b at y h = ap (λ (t : Translated). t.boolean) (comparison_is x b at y) ∙ rw h refl

  pub logics_compared : (x : Expression) (b : Relational) (at : ℕ) (y : Expression) → is_boolean look x ≡ false →
      boolean_of look (e.Comparison x b at y) ≡ boolean.LogicComparison (logic_of look x) b (logic_of look y)
  unfolding is_boolean logic_of boolean_of
  logics_compared x b at y h = ap (λ (t : Translated). t.boolean) (comparison_is x b at y) ∙ rw h refl

-- the type of each kind of expression
pub ruleset types = (
  literal_is_boolean,
  name_is_boolean,
  event_is_boolean,
  call_is_boolean,
  parenthesized_is_boolean,
  not_is_boolean,
  condition_is_boolean,
  comparison_is_boolean,
  chain_is_boolean,
)

-- each kind of expression of std_ulogic
pub ruleset logics_are = (
  literal_logic_of,
  name_logic_of,
  event_logic_of,
  call_logic_of,
  parenthesized_logic_of,
  not_logic_of,
  condition_logic_of,
  comparison_logic_of,
  chain_logic_of,
)

-- each kind of expression of boolean
pub ruleset booleans_are = (
  literal_boolean_of,
  name_boolean_of,
  event_boolean_of,
  call_boolean_of,
  parenthesized_boolean_of,
  not_boolean_of,
  condition_boolean_of,
  booleans_compared,
  logics_compared,
  chain_boolean_of,
)
