-- Soundness for expressions: the tokens that a reader consumes spell its result. For each reader a lemma says that it `Gives` its spelling. The
-- proof follows the steps of the reader with `then_` and joins the spellings of the parts with `◌&◌`; nested parentheses by induction on how many
-- may still be open.
use Rattle.std.proofs.Common.{◌≡◌, ℕ, zero, suc, Bool, true, false, List, [], ◌∷◌, ◌++◌, map, Option, Some, None, refl, sym}
use Rattle.std.proofs.lemmas.List.{append-nil}
use Rattle.sim_text_tokens.specs.declared.kind.Kind.{Kind}
use Rattle.sim_text_tokens.specs.declared.kind.Kind.TheVariants as k
use Rattle.sim_text_tree.specs.Name.{Name}
use Rattle.sim_text_tree.specs.declared.expression.Expression.{Expression}
use Rattle.sim_text_tree.specs.declared.expression.Operand.{Operand}
use Rattle.sim_logic.specs.declared.operator_symbol.Relational.{Relational}
use Rattle.sim_logic.specs.declared.operator_symbol.Relational.TheVariants as relational
use Rattle.sim_logic.specs.declared.operator_symbol.Logical.{Logical}
use Rattle.sim_logic.specs.declared.operator_symbol.Logical.TheVariants as logical
use Rattle.sim_text_tree.specs.Input.{Input, kind, next}
use Rattle.sim_text_grammar.specs.Readers.{Parser, left}
use Rattle.sim_text_tree.specs.Writing.{Writing, all_of, word_at, Fits}
use Rattle.sim_text_tree.specs.Grammar.{relational_kind, logical_kind, is_repeatable, more_operands, of_expression, of_primary, of_relation}
use Rattle.sim_text_tree.specs.Grammar.{of_factor, of_operand}
use Rattle.sim_text_tree.proofs.Writings.{◌&◌, none, opened_fits, mark_at, marks}
use Rattle.sim_text_grammar.proofs.Gives.{Gives, then_, map_, done, refused}
use Rattle.sim_text_grammar.proofs.Tokens.{same_is, word_gives, literal_gives, event_gives, expect_gives}
use Rattle.sim_text_grammar.proofs.Lists.{many_gives}
use Rattle.sim_text_tree.proofs.ExpressionRules.{literal_is, named_is, event_is, call_is, parenthesized_is, not_is, condition_is, compared_is}
use Rattle.sim_text_tree.proofs.ExpressionRules.{operand_is, chain_is, operands_of}
use Rattle.sim_text_tree.proofs.ExpressionLevels.{primary_is_factor, factor_is_relation, relation_is_expression}
use Rattle.sim_text_grammar.specs.Expressions as spec
use Rattle.sim_text_grammar.specs.Expressions.{named, named_by, goes_on, logical_of, primary, primary_by, factor, factor_by, comparison, relation}
use Rattle.sim_text_grammar.specs.Expressions.{relation_by, operand, operands, chain, chain_by, expression_by, expression_in, nested, expression}

named_gives_by : (p n : ℕ) (x : Name) (i j : Input) → Fits p n (word_at x) i j → (y : Kind) → kind j ≡ y
    → Gives (λ t m. Fits p n (of_primary t) i m) (named_by x y j)
named_gives_by p n x i j w k.Tick e = then_ (event_gives {p = p} {n = n} (next j)) (λ u m h. done (rw event_is (w & marks j k.Tick e (λ z. absurd cc) & h)))
named_gives_by p n x i j w k.LeftParen e =
    then_ (word_gives {p = p} {n = n} (next j)) (λ a m h.
    then_ (expect_gives {p = p} {n = n} k.RightParen m (λ z. absurd cc)) (λ u q g.
    done (rw call_is (w & marks j k.LeftParen e (λ z. absurd cc) & h & g))))
named_gives_by p n x i j w _ e = done (rw named_is w)

pub named_gives : (p n : ℕ) (i : Input) → Gives (λ t m. Fits p n (of_primary t) i m) (named i)
unfolding named
named_gives p n i = then_ (word_gives {p = p} {n = n} i) (λ x j w. named_gives_by p n x i j w (kind j) refl)

logical_is : (x : Kind) (o : Logical) → logical_of x ≡ Some o → x ≡ logical_kind o
logical_is k.And logical.And e = refl
logical_is k.Or logical.Or e = refl
logical_is k.Xor logical.Xor e = refl
logical_is k.Xnor logical.Xnor e = refl
logical_is k.Nand logical.Nand e = refl
logical_is k.Nor logical.Nor e = refl
logical_is _ o e = absurd cc

logical_real : (o : Logical) → k.EndOfText ≡ logical_kind o → ⊥
logical_real logical.And e = absurd cc
logical_real logical.Or e = absurd cc
logical_real logical.Xor e = absurd cc
logical_real logical.Xnor e = absurd cc
logical_real logical.Nand e = absurd cc
logical_real logical.Nor e = absurd cc

-- operands of a logical operator, each after it
abbrev pub operands_w : Logical → List Operand → Writing
operands_w o ls = all_of (map (λ l. of_operand l (logical_kind o)) ls)

module _ (inner : Parser Expression) (p n : ℕ) (ok : (i : Input) → kind i ≡ k.LeftParen → Gives (λ t m. Fits p n (of_primary t) i m) (inner i)) where
  primary_gives_by : (i : Input) (x : Kind) → kind i ≡ x → Gives (λ t m. Fits p n (of_primary t) i m) (primary_by inner x i)
  primary_gives_by i k.Literal e = then_ (literal_gives {p = p} {n = n} i) (λ v m h. done (rw literal_is h))
  primary_gives_by i k.LeftParen e = ok i e
  primary_gives_by i _ e = named_gives p n i

  primary_gives : (i : Input) → Gives (λ t m. Fits p n (of_primary t) i m) (primary inner i)
  unfolding primary
  primary_gives i = primary_gives_by i (kind i) refl

  factor_gives_by : (i : Input) (x : Kind) → kind i ≡ x → Gives (λ t m. Fits p n (of_factor t) i m) (factor_by inner x i)
  factor_gives_by i k.Not e = then_ (primary_gives (next i)) (λ t m h. done (rw not_is (mark_at i k.Not e (λ z. absurd cc) & h)))
  factor_gives_by i _ e = map_ (primary_gives i) (λ t m h. primary_is_factor p n t i m h)

  factor_gives : (i : Input) → Gives (λ t m. Fits p n (of_factor t) i m) (factor inner i)
  unfolding factor
  factor_gives i = factor_gives_by i (kind i) refl

  comparison_gives : (i j : Input) (a : Expression) (b : Relational) → Fits p n (of_factor a) i j → kind j ≡ relational_kind b
      → (k.EndOfText ≡ relational_kind b → ⊥) → Gives (λ t m. Fits p n (of_relation t) i m) (comparison inner a b j)
  comparison_gives i j a b w e real = then_ (factor_gives (next j)) (λ t m h. done (rw compared_is (w & mark_at j (relational_kind b) e real & h)))

  relation_gives_by : (i j : Input) (a : Expression) → Fits p n (of_factor a) i j → (x : Kind) → kind j ≡ x
      → Gives (λ t m. Fits p n (of_relation t) i m) (relation_by inner a x j)
  relation_gives_by i j a w k.Equal e = comparison_gives i j a relational.Equal w e (λ z. absurd cc)
  relation_gives_by i j a w k.Unequal e = comparison_gives i j a relational.Unequal w e (λ z. absurd cc)
  relation_gives_by i j a w _ e = done (factor_is_relation p n a i j w)

  relation_gives : (i : Input) → Gives (λ t m. Fits p n (of_relation t) i m) (relation inner i)
  unfolding relation
  relation_gives i = then_ (factor_gives i) (λ a j w. relation_gives_by i j a w (kind j) refl)

  operand_gives : (x : Kind) → (k.EndOfText ≡ x → ⊥) → (i : Input) → kind i ≡ x → Gives (λ t m. Fits p n (of_operand t x) i m) (operand inner i)
  unfolding operand
  operand_gives x real i e = then_ (relation_gives (next i)) (λ t m h. done (rw operand_is (mark_at i x e real & h)))

  -- the operands read after the second one
  record Further (o : Logical) (found : List Operand) (i : Input) (xs : List Operand) (j : Input) : Type 0 where
    pub more : List Operand
    pub whole : xs ≡ found ++ more
    pub fits : Fits p n (more_operands (is_repeatable o) (map (λ l. of_operand l (logical_kind o)) more)) i j

  further_gives : (o : Logical) (found : List Operand) (i : Input) (b : Bool) → is_repeatable o ≡ b
      → Gives (Further o found i) (spec.more_operands inner b o found i)
  unfolding left
  further_gives o found i true e =
      map_ (many_gives p n (goes_on o) (operand inner) (λ l. of_operand l (logical_kind o)) (operands_w o) refl (λ l ls. refl)
      (λ j e. operand_gives (logical_kind o) (logical_real o) j (same_is (kind j) (logical_kind o) e)) _ found i)
      (λ xs j r. record { more = r.more; whole = r.whole; fits = rw e r.fits })
  further_gives o found i false e = done (record { more = []; whole = sym (append-nil found); fits = rw e none })

  operands_give : (o : Logical) (i : Input) → kind i ≡ logical_kind o → Gives (λ xs j. Fits p n (operands_of o xs) i j) (operands inner o i)
  unfolding operands
  operands_give o i e =
      then_ (operand_gives (logical_kind o) (logical_real o) i e) (λ l m h.
      map_ (further_gives o (l ∷ []) m (is_repeatable o) refl) (λ xs j r. rw r.whole (h & r.fits)))

  chain_gives_by : (i j : Input) (a : Expression) → Fits p n (of_relation a) i j → (o : Option Logical) → logical_of (kind j) ≡ o
      → Gives (λ t m. Fits p n (of_expression t) i m) (chain_by inner a o j)
  chain_gives_by i j a w (Some o) e = then_ (operands_give o j (logical_is (kind j) o e)) (λ ls m h. done (rw chain_is (w & h)))
  chain_gives_by i j a w None e = done (relation_is_expression p n a i j w)

  chain_gives : (i : Input) → Gives (λ t m. Fits p n (of_expression t) i m) (chain inner i)
  unfolding chain
  chain_gives i = then_ (relation_gives i) (λ a j w. chain_gives_by i j a w (logical_of (kind j)) refl)

  expression_gives_by : (i : Input) (x : Kind) → kind i ≡ x → Gives (λ t m. Fits p n (of_expression t) i m) (expression_by inner x i)
  expression_gives_by i k.Condition e =
      then_ (primary_gives (next i)) (λ t m h. done (rw condition_is (mark_at i k.Condition e (λ z. absurd cc) & h)))
  expression_gives_by i _ e = chain_gives i

  pub expression_in_gives : (i : Input) → Gives (λ t m. Fits p n (of_expression t) i m) (expression_in inner i)
  unfolding expression_in
  expression_in_gives i = expression_gives_by i (kind i) refl

-- an expression in parentheses
pub nested_gives : (p n : ℕ) (i : Input) → kind i ≡ k.LeftParen → Gives (λ t m. Fits p n (of_primary t) i m) (nested p i)
unfolding nested
nested_gives zero n i e = refused
nested_gives (suc p) n i e =
    then_ (expression_in_gives (nested p) p n (nested_gives p n) (next i)) (λ x m h.
    then_ (expect_gives {p = suc p} {n = n} k.RightParen m (λ z. absurd cc)) (λ u q g.
    done (rw parenthesized_is (mark_at i k.LeftParen e (λ z. absurd cc) & opened_fits h & g))))

-- an expression
pub expression_gives : {n : ℕ} (i : Input) → Gives (λ x m. Fits 64 n (of_expression x) i m) (expression i)
unfolding expression
expression_gives {n} i = expression_in_gives (nested 64) 64 n (nested_gives 64 n) i
