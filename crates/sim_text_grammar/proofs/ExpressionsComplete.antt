-- Completeness for expressions: reading the tokens that spell one returns it. `split` takes the spelling apart, which gives the tokens that the reader
-- sees at each step, and so its answer; nested parentheses by induction on how many may still be open. A token after a list or an optional part must not
-- continue it, so lemmas require this of the next token.
use Rattle.std.proofs.Common.{◌≡◌, ℕ, zero, suc, ◌<◌, ◌≤◌, Bool, true, false, List, [], ◌∷◌, ◌++◌, length, map, Some, Ok, inl, inr, refl, ap, sym}
use Rattle.std.proofs.Common.{subst, ◌∙◌, arith}
use Rattle.sim_text_tokens.specs.declared.kind.Kind.{Kind}
use Rattle.sim_text_tokens.specs.declared.kind.Kind.TheVariants as k
use Rattle.sim_text_tree.specs.Name.{Name}
use Rattle.sim_text_tree.specs.declared.expression.Expression.{Expression}
use Rattle.sim_text_tree.specs.declared.expression.Expression.TheVariants as exprs
use Rattle.sim_logic.specs.declared.operator_symbol.Relational.{Relational}
use Rattle.sim_logic.specs.declared.operator_symbol.Relational.TheVariants as relational
use Rattle.sim_text_tree.specs.declared.expression.Operand.{Operand}
use Rattle.sim_logic.specs.declared.operator_symbol.Logical.{Logical}
use Rattle.sim_logic.specs.declared.operator_symbol.Logical.TheVariants as logical
use Rattle.sim_text_tree.specs.Input.{Input, kind}
use Rattle.sim_text_grammar.specs.Readers.{Parser, left, same_kind, many_from}
use Rattle.sim_text_tree.specs.Writing.{MarkAt, just, ◌▸◌, Fits}
use Rattle.sim_text_tree.specs.Grammar.{relational_kind, logical_kind, is_repeatable, more_operands, of_expression, of_primary, of_relation}
use Rattle.sim_text_tree.specs.Grammar.{of_factor, of_operand}
use Rattle.sim_text_tree.proofs.Writings.{Halves, split, none_read, never_fits, opened_read, opened_none, mark_at_read, mark_read, less}
use Rattle.sim_text_grammar.proofs.Tokens.{is_same, not_same, same_is, word_read, word_kind, literal_read, literal_kind, event_read, expect_read}
use Rattle.sim_text_grammar.proofs.Lists.{many_again, list_follows}
use Rattle.sim_text_tree.proofs.ExpressionRules.{parenthesized_is, operand_is, operands_of, cases_operand}
use Rattle.sim_text_tree.proofs.ExpressionLevels.{factor_cases, relation_cases, expression_cases, A_literal, A_name, An_event, A_call, In_parentheses}
use Rattle.sim_text_tree.proofs.ExpressionLevels.{primary_cases}
use Rattle.sim_text_grammar.specs.Expressions as spec
use Rattle.sim_text_grammar.specs.Expressions.{named, named_by, goes_on, logical_of, primary, factor, factor_by, relation, relation_by, operand}
use Rattle.sim_text_grammar.specs.Expressions.{operands, chain, chain_by, expression_by, expression_in, nested, expression}
use Rattle.sim_text_grammar.proofs.ExpressionsSound.{operands_w}

-- how strongly a token binds to the expression before it: 3 continues a name, 2 a factor, 1 a relation
abbrev pub binds : Kind → ℕ
binds k.Tick = 3
binds k.LeftParen = 3
binds k.Equal = 2
binds k.Unequal = 2
binds k.And = 1
binds k.Or = 1
binds k.Xor = 1
binds k.Xnor = 1
binds k.Nand = 1
binds k.Nor = 1
binds _ = 0

named_stops : (n : Name) (m : Input) (x : Kind) → binds x < 3 → named_by n x m ≡ Ok (exprs.Named n, m)
named_stops n m k.Tick h = absurd (omega arith)
named_stops n m k.LeftParen h = absurd (omega arith)
named_stops n m _ h = refl

abbrev begins : Kind → Bool
begins k.Literal = true
begins k.Word = true
begins k.LeftParen = true
begins _ = false

-- a primary does not begin with `not`
primary_begins : (d n : ℕ) (x : Expression) (i m : Input) → Fits d n (of_primary x) i m → begins (kind i) ≡ true
primary_begins d n x i m f = elim (primary_cases d n x i m f) as (λ _. begins (kind i) ≡ true) [
  | A_literal v at e h ↦ rw (literal_kind i m v at h) refl
  | A_name y e h ↦ rw (word_kind i m y h) refl
  | An_event y e h ↦ let s = split h in rw (word_kind i s.mid y s.front) refl
  | A_call g a e h ↦ let s = split h in rw (word_kind i s.mid g s.front) refl
  | In_parentheses at y e h ↦ let s = split h in let c = mark_at_read i s.mid k.LeftParen at s.front in rw c.0 refl
]

-- a token that can begin a relation
abbrev leads : Kind → Bool
leads k.Literal = true
leads k.Word = true
leads k.LeftParen = true
leads k.Not = true
leads _ = false

begins_leads : (x : Kind) → begins x ≡ true → leads x ≡ true
begins_leads k.Literal e = refl
begins_leads k.Word e = refl
begins_leads k.LeftParen e = refl
begins_leads _ e = absurd cc

-- a token that can begin an expression
abbrev pub opens : Kind → Bool
opens k.Condition = true
opens x = leads x

leads_opens : (x : Kind) → leads x ≡ true → opens x ≡ true
leads_opens k.Condition e = refl
leads_opens _ e = e

factor_opens : (d n : ℕ) (x : Expression) (i m : Input) → Fits d n (of_factor x) i m → leads (kind i) ≡ true
factor_opens d n x i m f = elim (factor_cases d n x i m f) as (λ _. leads (kind i) ≡ true) [
  | inl h ↦ begins_leads (kind i) (primary_begins d n x i m h)
  | inr r ↦ let s = split r.fits in rw (mark_at_read i s.mid k.Not r.at s.front).0 refl
]

relation_opens : (d n : ℕ) (x : Expression) (i m : Input) → Fits d n (of_relation x) i m → leads (kind i) ≡ true
relation_opens d n x i m f = elim (relation_cases d n x i m f) as (λ _. leads (kind i) ≡ true) [
  | inl h ↦ factor_opens d n x i m h
  | inr r ↦ let s = split r.fits in factor_opens d n r.left i s.mid s.front
]

pub expression_opens : (d n : ℕ) (x : Expression) (i m : Input) → Fits d n (of_expression x) i m → opens (kind i) ≡ true
expression_opens d n x i m f = elim (expression_cases d n x i m f) as (λ _. opens (kind i) ≡ true) [
  | inl h ↦ leads_opens (kind i) (relation_opens d n x i m h)
  | inr (inl r) ↦ let s = split r.fits in rw (mark_at_read i s.mid k.Condition r.at s.front).0 refl
  | inr (inr r) ↦ let s = split r.fits in leads_opens (kind i) (relation_opens d n r.first i s.mid s.front)
]

relation_stops : (inner : Parser Expression) (a : Expression) (m : Input) (x : Kind) → binds x < 2 → relation_by inner a x m ≡ Ok (a, m)
relation_stops inner a m k.Equal h = absurd (omega arith)
relation_stops inner a m k.Unequal h = absurd (omega arith)
relation_stops inner a m _ h = refl

chain_stops : (inner : Parser Expression) (a : Expression) (m : Input) (x : Kind) → binds x < 1 → chain_by inner a (logical_of x) m ≡ Ok (a, m)
chain_stops inner a m k.And h = absurd (omega arith)
chain_stops inner a m k.Or h = absurd (omega arith)
chain_stops inner a m k.Xor h = absurd (omega arith)
chain_stops inner a m k.Xnor h = absurd (omega arith)
chain_stops inner a m k.Nand h = absurd (omega arith)
chain_stops inner a m k.Nor h = absurd (omega arith)
chain_stops inner a m _ h = refl

logical_binds : (o : Logical) → binds (logical_kind o) ≡ 1
logical_binds logical.And = refl
logical_binds logical.Or = refl
logical_binds logical.Xor = refl
logical_binds logical.Xnor = refl
logical_binds logical.Nand = refl
logical_binds logical.Nor = refl

logical_again : (o : Logical) → logical_of (logical_kind o) ≡ Some o
logical_again logical.And = refl
logical_again logical.Or = refl
logical_again logical.Xor = refl
logical_again logical.Xnor = refl
logical_again logical.Nand = refl
logical_again logical.Nor = refl

-- a token that binds less is not the operator
chain_ends : (o : Logical) (x : Kind) → binds x < 1 → same_kind x (logical_kind o) ≡ false
chain_ends o x h = not_same x (logical_kind o) (λ e. let b : binds x ≡ 1 = ap binds e ∙ logical_binds o in absurd (omega arith))

abbrev OperandKind : ℕ → ℕ → Operand → Type 0
OperandKind d n x = (o : Kind) (i m : Input) → Fits d n (of_operand x o) i m → (kind i ≡ o) × (suc (length m) ≤ length i)

operand_kind : (d n : ℕ) (x : Operand) → OperandKind d n x
operand_kind d n = cases_operand (OperandKind d n) (λ at x o i m h.
    let g = rw operand_is at h in
    let s = split g in
    let w = mark_at_read i s.mid o at s.front in
    (w.0, less (MarkAt o at) (of_relation x) i m g))

-- the next token does not continue a relation
abbrev Apart : Kind → Type 0
Apart x = binds x < 2

operand_starts : (d n : ℕ) (o : Logical) (x : Operand) (i m : Input) → Fits d n (of_operand x (logical_kind o)) i m → goes_on o (kind i) ≡ true
operand_starts d n o x i m h = is_same (kind i) (logical_kind o) (operand_kind d n x (logical_kind o) i m h).0

operand_leads : (o : Logical) (x : Kind) → goes_on o x ≡ true → Apart x
operand_leads o x e = let b : binds x ≡ 1 = ap binds (same_is x (logical_kind o) e) ∙ logical_binds o in omega arith

factor_begins : (inner : Parser Expression) (i : Input) (x : Kind) → begins x ≡ true → factor_by inner x i ≡ primary inner i
factor_begins inner i k.Literal e = refl
factor_begins inner i k.Word e = refl
factor_begins inner i k.LeftParen e = refl
factor_begins inner i _ e = absurd cc

chain_begins : (inner : Parser Expression) (i : Input) (x : Kind) → leads x ≡ true → expression_by inner x i ≡ chain inner i
chain_begins inner i k.Literal e = refl
chain_begins inner i k.Word e = refl
chain_begins inner i k.LeftParen e = refl
chain_begins inner i k.Not e = refl
chain_begins inner i _ e = absurd cc

module _ (inner : Parser Expression) (d n : ℕ) (again : (at : ℕ) (x : Expression) (i m : Input) → Fits d n (of_primary (exprs.Parenthesized at x)) i m
    → inner i ≡ Ok (exprs.Parenthesized at x, m)) where
  primary_again : (x : Expression) (i m : Input) → Fits d n (of_primary x) i m → binds (kind m) < 3 → primary inner i ≡ Ok (x, m)
  unfolding primary named
  primary_again x i m f b = elim (primary_cases d n x i m f) as (λ _. primary inner i ≡ Ok (x, m)) [
    | A_literal v at e h ↦ rw (e, literal_kind i m v at h, literal_read i m v at h) refl
    | A_name y e h ↦ rw (e, word_kind i m y h, word_read i m y h) (named_stops y m (kind m) b)
    | An_event y e h ↦
        let s = split h in
        let t = split s.back in
        let c = mark_read s.mid t.mid k.Tick t.front in
        rw (e, word_kind i s.mid y s.front, word_read i s.mid y s.front, c.0, c.1, event_read t.mid m t.back) refl
    | A_call g a e h ↦
        let s = split h in
        let t = split s.back in
        let u = split t.back in
        let c = mark_read s.mid t.mid k.LeftParen t.front in
        rw (
          e,
          word_kind i s.mid g s.front,
          word_read i s.mid g s.front,
          c.0,
          c.1,
          word_read t.mid u.mid a u.front,
          expect_read k.RightParen u.mid m
              u.back,
        ) refl
    | In_parentheses at y e h ↦
        let s = split h in
        let c = mark_at_read i s.mid k.LeftParen at s.front in
        rw (e, c.0) (again at y i m (rw parenthesized_is h))
  ]

  factor_again : (x : Expression) (i m : Input) → Fits d n (of_factor x) i m → binds (kind m) < 3 → factor inner i ≡ Ok (x, m)
  unfolding factor
  factor_again x i m f b = elim (factor_cases d n x i m f) as (λ _. factor inner i ≡ Ok (x, m)) [
    | inl h ↦ factor_begins inner i (kind i) (primary_begins d n x i m h) ∙ primary_again x i m h b
    | inr r ↦
        let s = split r.fits in
        let c = mark_at_read i s.mid k.Not r.at s.front in
        rw (r.is, c.0, c.1.0, c.1.1, primary_again r.operand s.mid m s.back b) refl
  ]

  compared_again : (a : Expression) (b : Relational) (at : ℕ) (c : Expression) (i m : Input) → binds (kind m) < 2
      → (s : Halves d n (of_factor a) (just (MarkAt (relational_kind b) at) ▸ of_factor c) i m) → relation inner i ≡ Ok (exprs.Comparison a b at c, m)
  unfolding relation
  compared_again a relational.Unequal at c i m t s =
      let u = split s.back in
      let w = mark_at_read s.mid u.mid k.Unequal at u.front in
      rw (factor_again a i s.mid s.front (rw w.0 (omega arith)), w.0, w.1.0, w.1.1, factor_again c u.mid m u.back (omega arith)) refl
  compared_again a relational.Equal at c i m t s =
      let u = split s.back in
      let w = mark_at_read s.mid u.mid k.Equal at u.front in
      rw (factor_again a i s.mid s.front (rw w.0 (omega arith)), w.0, w.1.0, w.1.1, factor_again c u.mid m u.back (omega arith)) refl

  relation_again : (x : Expression) (i m : Input) → Fits d n (of_relation x) i m → binds (kind m) < 2 → relation inner i ≡ Ok (x, m)
  unfolding relation
  relation_again x i m f b = elim (relation_cases d n x i m f) as (λ _. relation inner i ≡ Ok (x, m)) [
    | inl h ↦ rw (factor_again x i m h (omega arith)) (relation_stops inner x m (kind m) b)
    | inr r ↦ rw r.is (compared_again r.left r.operator r.at r.right i m b (split r.fits))
  ]

  abbrev OperandAgain : Operand → Type 0
  OperandAgain x = (o : Kind) (i m : Input) → Fits d n (of_operand x o) i m → Apart (kind m) → operand inner i ≡ Ok (x, m)

  operand_again : (x : Operand) → OperandAgain x
  unfolding operand
  operand_again = cases_operand OperandAgain (λ at x o i m h b.
      let s = split (rw operand_is at h) in
      let w = mark_at_read i s.mid o at s.front in
      rw (w.1.0, w.1.1, relation_again x s.mid m s.back b) refl)

  operands_follow : (o : Logical) (ls : List Operand) (i m : Input) → Fits d n (operands_w o ls) i m → Apart (kind m) → Apart (kind i)
  operands_follow o = list_follows d n (goes_on o) (operand inner) (λ l. of_operand l (logical_kind o)) (operands_w o) refl (λ l ls. refl) Apart
      (λ l i j h. operand_starts d n o l i j h) (operand_leads o)

  operands_again : (o : Logical) (ls found : List Operand) (i m : Input) → Fits d n (operands_w o ls) i m → binds (kind m) < 1
      → many_from (goes_on o) (operand inner) (length i) found i ≡ Ok (found ++ ls, m)
  operands_again o ls found i m h b = many_again d n (goes_on o) (operand inner) (λ l. of_operand l (logical_kind o)) (operands_w o) refl
      (λ l ls. refl) Apart (λ l i j h. operand_starts d n o l i j h) (operand_leads o) (λ l i j g. (operand_kind d n l (logical_kind o) i j g).1)
      (λ l i j g e. operand_again l (logical_kind o) i j g e) ls (length i) found i m h (omega arith) (omega arith) (chain_ends o (kind m) b)

  -- the tokens after the second operand
  further_follows : (o : Logical) (r : Bool) (ls : List Operand) (i m : Input)
      → Fits d n (more_operands r (map (λ l. of_operand l (logical_kind o)) ls)) i m → Apart (kind m) → Apart (kind i)
  further_follows o true ls i m h b = operands_follow o ls i m h b
  further_follows o false [] i m h b = subst (λ (x : Input). Apart (kind x)) (sym (none_read h)) b
  further_follows o false (l ∷ ls) i m h b = absurd (never_fits i m h)

  further_again : (o : Logical) (r : Bool) (ls : List Operand) (second : Operand) (i m : Input)
      → Fits d n (more_operands r (map (λ l. of_operand l (logical_kind o)) ls)) i m → binds (kind m) < 1
      → spec.more_operands inner r o (second ∷ []) i ≡ Ok (second ∷ ls, m)
  unfolding left
  further_again o true ls second i m h b = operands_again o ls (second ∷ []) i m h b
  further_again o false [] second i m h b = rw (none_read h) refl
  further_again o false (l ∷ ls) second i m h b = absurd (never_fits i m h)

  chain_again : (o : Logical) (a : Expression) (ls : List Operand) (i m : Input) → Fits d n (of_relation a ▸ operands_of o ls) i m → binds (kind m) < 1
      → chain inner i ≡ Ok (exprs.Chain o a ls, m)
  unfolding chain operands
  chain_again o a [] i m h b = let s = split h in absurd (never_fits s.mid m s.back)
  chain_again o a (l ∷ ls) i m h b =
      let s = split h in
      let t = split s.back in
      let w = operand_kind d n l (logical_kind o) s.mid t.mid t.front in
      let e = operand_again l (logical_kind o) s.mid t.mid t.front (further_follows o (is_repeatable o) ls t.mid m t.back (omega arith)) in
      rw (
        relation_again a i s.mid s.front (rw (w.0, logical_binds o) (omega arith)),
        w.0,
        logical_again o,
        e,
        further_again o (is_repeatable o) ls l
            t.mid m t.back b,
      ) refl

  relation_alone : (x : Expression) (i m : Input) → Fits d n (of_relation x) i m → binds (kind m) < 1 → chain inner i ≡ Ok (x, m)
  unfolding chain
  relation_alone x i m h b = rw (relation_again x i m h (omega arith)) (chain_stops inner x m (kind m) b)

  pub expression_in_again : (x : Expression) (i m : Input) → Fits d n (of_expression x) i m → binds (kind m) < 1 → expression_in inner i ≡ Ok (x, m)
  unfolding expression_in
  expression_in_again x i m f b = elim (expression_cases d n x i m f) as (λ _. expression_in inner i ≡ Ok (x, m)) [
    | inl h ↦ chain_begins inner i (kind i) (relation_opens d n x i m h) ∙ relation_alone x i m h b
    | inr (inl r) ↦
        let s = split r.fits in
        let c = mark_at_read i s.mid k.Condition r.at s.front in
        rw (r.is, c.0, c.1.0, c.1.1, primary_again r.operand s.mid m s.back (omega arith)) refl
    | inr (inr r) ↦
        let s = split r.fits in
        chain_begins inner i (kind i) (relation_opens d n r.first i s.mid s.front) ∙ rw r.is (chain_again r.operator r.first r.rest i m r.fits b)
  ]

pub nested_again : (d n at : ℕ) (x : Expression) (i m : Input) → Fits d n (of_primary (exprs.Parenthesized at x)) i m
    → nested d i ≡ Ok (exprs.Parenthesized at x, m)
unfolding nested
nested_again zero n at x i m h =
    let s = split (rw parenthesized_is at h) in
    let t = split s.back in
    absurd (opened_none t.front)
nested_again (suc d) n at x i m h =
    let s = split (rw parenthesized_is at h) in
    let t = split s.back in
    let w = mark_at_read i s.mid k.LeftParen at s.front in
    let c = mark_read t.mid m k.RightParen t.back in
    rw (
      w.1.0,
      w.1.1,
      expression_in_again (nested d) d n (nested_again d n) x s.mid t.mid (opened_read t.front) (rw c.0 (omega arith)),
      expect_read
          k.RightParen t.mid m t.back,
    ) refl

-- an expression is read from its spelling, unless the next token continues it
pub expression_again : {n : ℕ} (x : Expression) (i m : Input) → Fits 64 n (of_expression x) i m → binds (kind m) < 1 → expression i ≡ Ok (x, m)
unfolding expression
expression_again {n} x i m h b = expression_in_again (nested 64) 64 n (nested_again 64 n) x i m h b
