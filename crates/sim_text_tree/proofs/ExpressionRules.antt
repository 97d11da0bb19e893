-- The spelling of each expression, as an equation, and each expression as one of its variants.
use Rattle.std.proofs.Common.{◌≡◌, ℕ, List, [], ◌∷◌, map, refl, sym, ap, subst, ◌∙◌, codes}
use Rattle.sim_logic.specs.declared.logic.Logic.{Logic}
use Rattle.sim_text_tokens.specs.declared.kind.Kind.{Kind}
use Rattle.sim_text_tokens.specs.declared.kind.Kind.TheVariants as k
use Rattle.sim_text_tree.specs.Name.{Name}
use Rattle.sim_logic.specs.declared.operator_symbol.Relational.{Relational}
use Rattle.sim_logic.specs.declared.operator_symbol.Logical.{Logical}
use Rattle.sim_text_tree.specs.declared.expression.Operand.{Operand, roll-Operand}
use Rattle.sim_text_tree.specs.declared.expression.Expression.{Expression}
use Rattle.sim_text_tree.specs.declared.expression.Expression.TheVariants as e
use Rattle.sim_text_tree.specs.declared.expression.Expression.TheOpen as o
use Rattle.sim_text_tree.specs.declared.expression.Expression.TheFolds as folds
use Rattle.sim_text_tree.specs.declared.expression.Expression.TheViews as views
use Rattle.sim_text_tree.specs.Writing.{MarkAt, LiteralAt, This, Writing, just, mark, never, ◌▸◌, in_parentheses, word_at}
use Rattle.sim_text_tree.specs.Grammar.{relational_kind, logical_kind, is_repeatable, more_operands, Levels, a_primary, a_factor, a_relation}
use Rattle.sim_text_tree.specs.Grammar.{an_expression, operands_rule, expression_rule, operand_rule, levels_of, of_expression, of_primary, of_relation}
use Rattle.sim_text_tree.specs.Grammar.{of_factor, of_operand}

pub literal_levels : (v : Logic) (at : ℕ) → levels_of (e.Literal v at) ≡ a_primary (just (LiteralAt v at))
unfolding levels_of of_expression of_primary of_relation of_factor
literal_levels v at = ap levels_of (sym (e.rolls-Literal v at)) ∙ folds.fold-roll-Expression Levels (Kind → Writing) expression_rule operand_rule
    (o.Literal v at)

pub named_levels : (n : Name) → levels_of (e.Named n) ≡ a_primary (word_at n)
unfolding levels_of of_expression of_primary of_relation of_factor
named_levels n = ap levels_of (sym (e.rolls-Named n)) ∙ folds.fold-roll-Expression Levels (Kind → Writing) expression_rule operand_rule (o.Named n)

pub event_levels : (n : Name) → levels_of (e.Event n) ≡ a_primary (word_at n ▸ mark k.Tick ▸ just (This (codes "event")))
unfolding levels_of of_expression of_primary of_relation of_factor
event_levels n = ap levels_of (sym (e.rolls-Event n)) ∙ folds.fold-roll-Expression Levels (Kind → Writing) expression_rule operand_rule (o.Event n)

pub call_levels : (f a : Name) → levels_of (e.Call f a) ≡ a_primary (word_at f ▸ mark k.LeftParen ▸ word_at a ▸ mark k.RightParen)
unfolding levels_of of_expression of_primary of_relation of_factor
call_levels f a = ap levels_of (sym (e.rolls-Call f a)) ∙ folds.fold-roll-Expression Levels (Kind → Writing) expression_rule operand_rule (o.Call f a)

pub parenthesized_levels : (at : ℕ) (x : Expression) →
    levels_of (e.Parenthesized at x) ≡ a_primary (just (MarkAt k.LeftParen at) ▸ in_parentheses (of_expression x) ▸ mark k.RightParen)
unfolding levels_of of_expression of_primary of_relation of_factor
parenthesized_levels at x = ap levels_of (sym (e.rolls-Parenthesized at x)) ∙ folds.fold-roll-Expression Levels (Kind → Writing) expression_rule
    operand_rule (o.Parenthesized at x)

pub not_levels : (at : ℕ) (x : Expression) → levels_of (e.Not at x) ≡ a_factor (just (MarkAt k.Not at) ▸ of_primary x)
unfolding levels_of of_expression of_primary of_relation of_factor
not_levels at x = ap levels_of (sym (e.rolls-Not at x)) ∙ folds.fold-roll-Expression Levels (Kind → Writing) expression_rule operand_rule (o.Not at x)

pub condition_levels : (at : ℕ) (x : Expression) → levels_of (e.Condition at x) ≡ an_expression (just (MarkAt k.Condition at) ▸ of_primary x)
unfolding levels_of of_expression of_primary of_relation of_factor
condition_levels at x = ap levels_of (sym (e.rolls-Condition at x)) ∙ folds.fold-roll-Expression Levels (Kind → Writing) expression_rule operand_rule
    (o.Condition at x)

pub compared_levels : (x : Expression) (b : Relational) (at : ℕ) (y : Expression) →
    levels_of (e.Comparison x b at y) ≡ a_relation (of_factor x ▸ just (MarkAt (relational_kind b) at) ▸ of_factor y)
unfolding levels_of of_expression of_primary of_relation of_factor
compared_levels x b at y = ap levels_of (sym (e.rolls-Comparison x b at y)) ∙ folds.fold-roll-Expression Levels (Kind → Writing) expression_rule
    operand_rule (o.Comparison x b at y)

pub operand_is : (at : ℕ) (x : Expression) (kind : Kind) →
    of_operand (roll-Operand (record { operator_at = at; operand = x })) kind ≡ just (MarkAt kind at) ▸ of_relation x
unfolding levels_of of_operand of_expression of_primary of_relation of_factor
operand_is at x kind =
    ap (λ (f : Kind → Writing). f kind) (folds.fold-roll-Operand Levels (Kind → Writing) expression_rule operand_rule
    (record { operator_at = at; operand = x }))

operands_same : (g : Operand → Kind → Writing) (kind : Kind) (ls : List Operand) →
    map (λ (f : Kind → Writing). f kind) (map g ls) ≡ map (λ (l : Operand). g l kind) ls
operands_same g kind [] = refl
operands_same g kind (l ∷ ls) = ap (λ (ws : List Writing). g l kind ∷ ws) (operands_same g kind ls)

-- operands after the first: at least one
abbrev pub operands_of : Logical → List Operand → Writing
operands_of operator [] = never
operands_of operator (l ∷ ls) =
    of_operand l (logical_kind operator) ▸ more_operands (is_repeatable operator) (map (λ l. of_operand l (logical_kind operator)) ls)

operands_are : (operator : Logical) (ls : List Operand) → operands_rule operator (map of_operand ls) ≡ operands_of operator ls
operands_are operator [] = refl
operands_are operator (l ∷ ls) =
    ap (λ (ws : List Writing). of_operand l (logical_kind operator) ▸ more_operands (is_repeatable operator) ws)
    (operands_same of_operand (logical_kind operator) ls)

pub chain_levels : (b : Logical) (x : Expression) (ls : List Operand) → levels_of (e.Chain b x ls) ≡ an_expression (of_relation x ▸ operands_of b ls)
unfolding levels_of of_operand of_expression of_primary of_relation of_factor
chain_levels b x ls =
    ap levels_of (sym (e.rolls-Chain b x ls)) ∙ folds.fold-roll-Expression Levels (Kind → Writing) expression_rule operand_rule (o.Chain b x ls)
    ∙ ap (λ (w : Writing). an_expression (of_relation x ▸ w)) (operands_are b ls)

-- ---- each variant, at the level that adds it

pub literal_is : (v : Logic) (at : ℕ) → of_primary (e.Literal v at) ≡ just (LiteralAt v at)
unfolding of_primary
literal_is v at = ap (λ (l : Levels). l.as_primary) (literal_levels v at)

pub named_is : (n : Name) → of_primary (e.Named n) ≡ word_at n
unfolding of_primary
named_is n = ap (λ (l : Levels). l.as_primary) (named_levels n)

pub event_is : (n : Name) → of_primary (e.Event n) ≡ word_at n ▸ mark k.Tick ▸ just (This (codes "event"))
unfolding of_primary
event_is n = ap (λ (l : Levels). l.as_primary) (event_levels n)

pub call_is : (f a : Name) → of_primary (e.Call f a) ≡ word_at f ▸ mark k.LeftParen ▸ word_at a ▸ mark k.RightParen
unfolding of_primary
call_is f a = ap (λ (l : Levels). l.as_primary) (call_levels f a)

pub parenthesized_is : (at : ℕ) (x : Expression) →
    of_primary (e.Parenthesized at x) ≡ just (MarkAt k.LeftParen at) ▸ in_parentheses (of_expression x) ▸ mark k.RightParen
unfolding of_primary
parenthesized_is at x = ap (λ (l : Levels). l.as_primary) (parenthesized_levels at x)

pub not_is : (at : ℕ) (x : Expression) → of_factor (e.Not at x) ≡ just (MarkAt k.Not at) ▸ of_primary x
unfolding of_factor
not_is at x = ap (λ (l : Levels). l.as_factor) (not_levels at x)

pub compared_is : (x : Expression) (b : Relational) (at : ℕ) (y : Expression) →
    of_relation (e.Comparison x b at y) ≡ of_factor x ▸ just (MarkAt (relational_kind b) at) ▸ of_factor y
unfolding of_relation
compared_is x b at y = ap (λ (l : Levels). l.as_relation) (compared_levels x b at y)

pub condition_is : (at : ℕ) (x : Expression) → of_expression (e.Condition at x) ≡ just (MarkAt k.Condition at) ▸ of_primary x
unfolding of_expression
condition_is at x = ap (λ (l : Levels). l.as_expression) (condition_levels at x)

pub chain_is : (b : Logical) (x : Expression) (ls : List Operand) → of_expression (e.Chain b x ls) ≡ of_relation x ▸ operands_of b ls
unfolding of_expression
chain_is b x ls = ap (λ (l : Levels). l.as_expression) (chain_levels b x ls)

-- ---- each expression as one of its variants

pub cases_expression : (P : Expression → Type 0) → ((v : Logic) (at : ℕ) → P (e.Literal v at)) → ((n : Name) → P (e.Named n))
    → ((n : Name) → P (e.Event n)) → ((f a : Name) → P (e.Call f a)) → ((at : ℕ) (x : Expression) → P (e.Parenthesized at x))
    → ((at : ℕ) (x : Expression) → P (e.Not at x)) → ((at : ℕ) (x : Expression) → P (e.Condition at x))
    → ((x : Expression) (b : Relational) (at : ℕ) (y : Expression) → P (e.Comparison x b at y))
    → ((b : Logical) (x : Expression) (ls : List Operand) → P (e.Chain b x ls)) → (x : Expression) → P x
cases_expression P literal named event call parenthesized negated conditional compared chain x =
    subst P (views.roll-out-Expression x) (elim (views.out-Expression x) as (λ y. P (views.roll-Expression y)) [
      | o.Literal a b ↦ subst P (sym (e.rolls-Literal a b)) (literal a b)
      | o.Named a ↦ subst P (sym (e.rolls-Named a)) (named a)
      | o.Event a ↦ subst P (sym (e.rolls-Event a)) (event a)
      | o.Call a b ↦ subst P (sym (e.rolls-Call a b)) (call a b)
      | o.Parenthesized a b ↦ subst P (sym (e.rolls-Parenthesized a b)) (parenthesized a b)
      | o.Not a b ↦ subst P (sym (e.rolls-Not a b)) (negated a b)
      | o.Condition a b ↦ subst P (sym (e.rolls-Condition a b)) (conditional a b)
      | o.Comparison a b at c ↦ subst P (sym (e.rolls-Comparison a b at c)) (compared a b at c)
      | o.Chain a b c ↦ subst P (sym (e.rolls-Chain a b c)) (chain a b c)
    ])

pub cases_operand : (P : Operand → Type 0) → ((at : ℕ) (x : Expression) → P (roll-Operand (record { operator_at = at; operand = x })))
    → (x : Operand) → P x
cases_operand P f x = subst P (views.roll-out-Operand x) (f (views.out-Operand x).operator_at (views.out-Operand x).operand)
