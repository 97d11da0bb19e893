-- Where each expression starts, and that its first token starts there.
use Rattle.std.proofs.Common.{◌≡◌, ℕ, List, inl, inr, sym, ap, ◌∙◌}
use Rattle.sim_logic.specs.declared.logic.Logic.{Logic}
use Rattle.sim_text_tokens.specs.declared.kind.Kind.TheVariants as k
use Rattle.sim_text_tree.specs.Name.{Name}
use Rattle.sim_logic.specs.declared.operator_symbol.Relational.{Relational}
use Rattle.sim_logic.specs.declared.operator_symbol.Logical.{Logical}
use Rattle.sim_text_tree.specs.declared.expression.Operand.{Operand}
use Rattle.sim_text_tree.specs.declared.expression.Expression.{Expression}
use Rattle.sim_text_tree.specs.declared.expression.Expression.TheVariants as e
use Rattle.sim_text_tree.specs.declared.expression.Expression.TheOpen as o
use Rattle.sim_text_tree.specs.declared.expression.Expression.TheFolds as folds
use Rattle.sim_text_tree.specs.Input.{Input, place}
use Rattle.sim_text_tree.specs.Writing.{Fits}
use Rattle.sim_text_tree.specs.Grammar.{of_expression, of_primary, of_relation, of_factor}
use Rattle.sim_text_tree.specs.Starts.{expression_start, operand_start, start_of}
use Rattle.sim_text_tree.proofs.Writings.{split, mark_at_read, word_place, literal_place}
use Rattle.sim_text_tree.proofs.ExpressionLevels.{A_literal, A_name, An_event, A_call, In_parentheses, primary_cases, factor_cases, relation_cases}
use Rattle.sim_text_tree.proofs.ExpressionLevels.{expression_cases}

pub literal_start : (v : Logic) (at : ℕ) → start_of (e.Literal v at) ≡ at
unfolding start_of
literal_start v at = ap start_of (sym (e.rolls-Literal v at)) ∙ folds.fold-roll-Expression ℕ ℕ expression_start operand_start (o.Literal v at)

pub named_start : (n : Name) → start_of (e.Named n) ≡ n.at
unfolding start_of
named_start n = ap start_of (sym (e.rolls-Named n)) ∙ folds.fold-roll-Expression ℕ ℕ expression_start operand_start (o.Named n)

pub event_start : (n : Name) → start_of (e.Event n) ≡ n.at
unfolding start_of
event_start n = ap start_of (sym (e.rolls-Event n)) ∙ folds.fold-roll-Expression ℕ ℕ expression_start operand_start (o.Event n)

pub call_start : (f a : Name) → start_of (e.Call f a) ≡ f.at
unfolding start_of
call_start f a = ap start_of (sym (e.rolls-Call f a)) ∙ folds.fold-roll-Expression ℕ ℕ expression_start operand_start (o.Call f a)

pub parenthesized_start : (at : ℕ) (x : Expression) → start_of (e.Parenthesized at x) ≡ at
unfolding start_of
parenthesized_start at x = ap start_of (sym (e.rolls-Parenthesized at x)) ∙ folds.fold-roll-Expression ℕ ℕ expression_start operand_start (o.Parenthesized at x)

pub not_start : (at : ℕ) (x : Expression) → start_of (e.Not at x) ≡ at
unfolding start_of
not_start at x = ap start_of (sym (e.rolls-Not at x)) ∙ folds.fold-roll-Expression ℕ ℕ expression_start operand_start (o.Not at x)

pub condition_start : (at : ℕ) (x : Expression) → start_of (e.Condition at x) ≡ at
unfolding start_of
condition_start at x = ap start_of (sym (e.rolls-Condition at x)) ∙ folds.fold-roll-Expression ℕ ℕ expression_start operand_start (o.Condition at x)

pub comparison_start : (x : Expression) (b : Relational) (at : ℕ) (y : Expression) → start_of (e.Comparison x b at y) ≡ start_of x
unfolding start_of
comparison_start x b at y = ap start_of (sym (e.rolls-Comparison x b at y)) ∙ folds.fold-roll-Expression ℕ ℕ expression_start operand_start
    (o.Comparison x b at y)

pub chain_start : (b : Logical) (x : Expression) (ls : List Operand) → start_of (e.Chain b x ls) ≡ start_of x
unfolding start_of
chain_start b x ls = ap start_of (sym (e.rolls-Chain b x ls)) ∙ folds.fold-roll-Expression ℕ ℕ expression_start operand_start (o.Chain b x ls)

-- where each kind of expression starts
pub ruleset starts = (literal_start, named_start, event_start, call_start, parenthesized_start, not_start, condition_start, comparison_start, chain_start)

-- ---- an expression starts where its first token does

primary_first : (p n : ℕ) (x : Expression) (i m : Input) → Fits p n (of_primary x) i m → start_of x ≡ place i
primary_first p n x i m f = elim (primary_cases p n x i m f) as (λ _. start_of x ≡ place i) [
  | A_literal v at e h ↦ rw (e, literal_start) (sym (literal_place i m v at h))
  | A_name y e h ↦ rw (e, named_start) (sym (word_place i m y h))
  | An_event y e h ↦ let s = split h in rw (e, event_start) (sym (word_place i s.mid y s.front))
  | A_call g a e h ↦ let s = split h in rw (e, call_start) (sym (word_place i s.mid g s.front))
  | In_parentheses at y e h ↦ let s = split h in rw (e, parenthesized_start) (sym (mark_at_read i s.mid k.LeftParen at s.front).1.0)
]

factor_first : (p n : ℕ) (x : Expression) (i m : Input) → Fits p n (of_factor x) i m → start_of x ≡ place i
factor_first p n x i m f = elim (factor_cases p n x i m f) as (λ _. start_of x ≡ place i) [
  | inl h ↦ primary_first p n x i m h
  | inr r ↦ let s = split r.fits in rw (r.is, not_start) (sym (mark_at_read i s.mid k.Not r.at s.front).1.0)
]

relation_first : (p n : ℕ) (x : Expression) (i m : Input) → Fits p n (of_relation x) i m → start_of x ≡ place i
relation_first p n x i m f = elim (relation_cases p n x i m f) as (λ _. start_of x ≡ place i) [
  | inl h ↦ factor_first p n x i m h
  | inr r ↦ let s = split r.fits in rw (r.is, comparison_start) (factor_first p n r.left i s.mid s.front)
]

pub expression_first : (p n : ℕ) (x : Expression) (i m : Input) → Fits p n (of_expression x) i m → start_of x ≡ place i
expression_first p n x i m f = elim (expression_cases p n x i m f) as (λ _. start_of x ≡ place i) [
  | inl h ↦ relation_first p n x i m h
  | inr (inl r) ↦ let s = split r.fits in rw (r.is, condition_start) (sym (mark_at_read i s.mid k.Condition r.at s.front).1.0)
  | inr (inr r) ↦ let s = split r.fits in rw (r.is, chain_start) (relation_first p n r.first i s.mid s.front)
]
