-- The levels of the grammar of expressions: a primary is a factor, a factor a relation, a relation an expression;
-- conversely, each is of the level below or is the one kind of expression that its level adds.
use Rattle.std.proofs.Common.{◌≡◌, ℕ, List, ◌⊎◌, inl, inr, refl, sym, subst, codes}
use Rattle.sim_logic.specs.declared.logic.Logic.{Logic}
use Rattle.sim_text_tokens.specs.declared.kind.Kind.TheVariants as k
use Rattle.sim_text_tree.specs.Name.{Name}
use Rattle.sim_logic.specs.declared.operator_symbol.Relational.{Relational}
use Rattle.sim_logic.specs.declared.operator_symbol.Logical.{Logical}
use Rattle.sim_text_tree.specs.declared.expression.Operand.{Operand}
use Rattle.sim_text_tree.specs.declared.expression.Expression.{Expression}
use Rattle.sim_text_tree.specs.declared.expression.Expression.TheVariants as e
use Rattle.sim_text_tree.specs.Input.{Input}
use Rattle.sim_text_tree.specs.Writing.{MarkAt, LiteralAt, This, just, mark, ◌▸◌, in_parentheses, word_at, Fits}
use Rattle.sim_text_tree.specs.Grammar.{relational_kind, Levels, levels_of, of_expression, of_primary, of_relation, of_factor}
use Rattle.sim_text_tree.proofs.Writings.{never_fits}
use Rattle.sim_text_tree.proofs.ExpressionRules.{literal_levels, named_levels, event_levels, call_levels, parenthesized_levels, not_levels}
use Rattle.sim_text_tree.proofs.ExpressionRules.{compared_levels, chain_levels, condition_levels, operands_of, cases_expression}

-- a property of the levels of an expression, across an equation
at_levels : (P : Levels → Type 0) {l : Levels} (x : Expression) → levels_of x ≡ l → P l → P (levels_of x)
at_levels P x e h = subst P (sym e) h

-- ---- inclusion of the levels

-- a primary is a factor
abbrev primary_is_factor_at : ℕ → ℕ → Input → Input → Levels → Type 0
primary_is_factor_at p n i j l = Fits p n l.as_primary i j → Fits p n l.as_factor i j

pub primary_is_factor : (p n : ℕ) (x : Expression) (i j : Input) → Fits p n (of_primary x) i j → Fits p n (of_factor x) i j
unfolding of_expression of_primary of_relation of_factor
primary_is_factor p n = cases_expression (λ x. (i j : Input) → primary_is_factor_at p n i j (levels_of x))
    (λ v at i j. at_levels (primary_is_factor_at p n i j) _ (literal_levels v at) (λ h. h))
    (λ x i j. at_levels (primary_is_factor_at p n i j) _ (named_levels x) (λ h. h))
    (λ x i j. at_levels (primary_is_factor_at p n i j) _ (event_levels x) (λ h. h))
    (λ f a i j. at_levels (primary_is_factor_at p n i j) _ (call_levels f a) (λ h. h))
    (λ at x i j. at_levels (primary_is_factor_at p n i j) _ (parenthesized_levels at x) (λ h. h))
    (λ at x i j. at_levels (primary_is_factor_at p n i j) _ (not_levels at x) (λ h. absurd (never_fits i j h)))
    (λ at x i j. at_levels (primary_is_factor_at p n i j) _ (condition_levels at x) (λ h. absurd (never_fits i j h)))
    (λ x b at y i j. at_levels (primary_is_factor_at p n i j) _ (compared_levels x b at y) (λ h. absurd (never_fits i j h)))
    (λ b x ls i j. at_levels (primary_is_factor_at p n i j) _ (chain_levels b x ls) (λ h. absurd (never_fits i j h)))

-- a factor is a relation
abbrev factor_is_relation_at : ℕ → ℕ → Input → Input → Levels → Type 0
factor_is_relation_at p n i j l = Fits p n l.as_factor i j → Fits p n l.as_relation i j

pub factor_is_relation : (p n : ℕ) (x : Expression) (i j : Input) → Fits p n (of_factor x) i j → Fits p n (of_relation x) i j
unfolding of_expression of_primary of_relation of_factor
factor_is_relation p n = cases_expression (λ x. (i j : Input) → factor_is_relation_at p n i j (levels_of x))
    (λ v at i j. at_levels (factor_is_relation_at p n i j) _ (literal_levels v at) (λ h. h))
    (λ x i j. at_levels (factor_is_relation_at p n i j) _ (named_levels x) (λ h. h))
    (λ x i j. at_levels (factor_is_relation_at p n i j) _ (event_levels x) (λ h. h))
    (λ f a i j. at_levels (factor_is_relation_at p n i j) _ (call_levels f a) (λ h. h))
    (λ at x i j. at_levels (factor_is_relation_at p n i j) _ (parenthesized_levels at x) (λ h. h))
    (λ at x i j. at_levels (factor_is_relation_at p n i j) _ (not_levels at x) (λ h. h))
    (λ at x i j. at_levels (factor_is_relation_at p n i j) _ (condition_levels at x) (λ h. absurd (never_fits i j h)))
    (λ x b at y i j. at_levels (factor_is_relation_at p n i j) _ (compared_levels x b at y) (λ h. absurd (never_fits i j h)))
    (λ b x ls i j. at_levels (factor_is_relation_at p n i j) _ (chain_levels b x ls) (λ h. absurd (never_fits i j h)))

-- a relation is an expression
abbrev relation_is_expression_at : ℕ → ℕ → Input → Input → Levels → Type 0
relation_is_expression_at p n i j l = Fits p n l.as_relation i j → Fits p n l.as_expression i j

pub relation_is_expression : (p n : ℕ) (x : Expression) (i j : Input) → Fits p n (of_relation x) i j → Fits p n (of_expression x) i j
unfolding of_expression of_primary of_relation of_factor
relation_is_expression p n = cases_expression (λ x. (i j : Input) → relation_is_expression_at p n i j (levels_of x))
    (λ v at i j. at_levels (relation_is_expression_at p n i j) _ (literal_levels v at) (λ h. h))
    (λ x i j. at_levels (relation_is_expression_at p n i j) _ (named_levels x) (λ h. h))
    (λ x i j. at_levels (relation_is_expression_at p n i j) _ (event_levels x) (λ h. h))
    (λ f a i j. at_levels (relation_is_expression_at p n i j) _ (call_levels f a) (λ h. h))
    (λ at x i j. at_levels (relation_is_expression_at p n i j) _ (parenthesized_levels at x) (λ h. h))
    (λ at x i j. at_levels (relation_is_expression_at p n i j) _ (not_levels at x) (λ h. h))
    (λ at x i j. at_levels (relation_is_expression_at p n i j) _ (condition_levels at x) (λ h. absurd (never_fits i j h)))
    (λ x b at y i j. at_levels (relation_is_expression_at p n i j) _ (compared_levels x b at y) (λ h. h))
    (λ b x ls i j. at_levels (relation_is_expression_at p n i j) _ (chain_levels b x ls) (λ h. absurd (never_fits i j h)))

-- ---- cases at each level

-- a factor that begins with `not`
pub record IsNot (p n : ℕ) (x : Expression) (i m : Input) : Type 0 where
  pub at : ℕ
  pub operand : Expression
  pub is : x ≡ e.Not at operand
  pub fits : Fits p n (just (MarkAt k.Not at) ▸ of_primary operand) i m

-- a relation of two factors
pub record IsComparison (p n : ℕ) (x : Expression) (i m : Input) : Type 0 where
  pub left : Expression
  pub operator : Relational
  pub at : ℕ
  pub right : Expression
  pub is : x ≡ e.Comparison left operator at right
  pub fits : Fits p n (of_factor left ▸ just (MarkAt (relational_kind operator) at) ▸ of_factor right) i m

-- an expression that begins with `??`
pub record IsCondition (p n : ℕ) (x : Expression) (i m : Input) : Type 0 where
  pub at : ℕ
  pub operand : Expression
  pub is : x ≡ e.Condition at operand
  pub fits : Fits p n (just (MarkAt k.Condition at) ▸ of_primary operand) i m

-- relations with a logical operator between adjacent ones
pub record IsChain (p n : ℕ) (x : Expression) (i m : Input) : Type 0 where
  pub operator : Logical
  pub first : Expression
  pub rest : List Operand
  pub is : x ≡ e.Chain operator first rest
  pub fits : Fits p n (of_relation first ▸ operands_of operator rest) i m

-- a factor is a primary, or begins with `not`
abbrev factor_case : ℕ → ℕ → Input → Input → Expression → Levels → Type 0
factor_case p n i j x l = Fits p n l.as_factor i j → Fits p n l.as_primary i j ⊎ IsNot p n x i j

pub factor_cases : (p n : ℕ) (x : Expression) (i j : Input) → Fits p n (of_factor x) i j → Fits p n (of_primary x) i j ⊎ IsNot p n x i j
unfolding of_expression of_primary of_relation of_factor
factor_cases p n = cases_expression (λ x. (i j : Input) → factor_case p n i j x (levels_of x))
    (λ v at i j. at_levels (factor_case p n i j (e.Literal v at)) _ (literal_levels v at) (λ h. inl h))
    (λ x i j. at_levels (factor_case p n i j (e.Named x)) _ (named_levels x) (λ h. inl h))
    (λ x i j. at_levels (factor_case p n i j (e.Event x)) _ (event_levels x) (λ h. inl h))
    (λ f a i j. at_levels (factor_case p n i j (e.Call f a)) _ (call_levels f a) (λ h. inl h))
    (λ at x i j. at_levels (factor_case p n i j (e.Parenthesized at x)) _ (parenthesized_levels at x) (λ h. inl h))
    (λ at x i j. at_levels (factor_case p n i j (e.Not at x)) _ (not_levels at x) (λ h. inr (record { at = at; operand = x; is = refl; fits = h })))
    (λ at x i j. at_levels (factor_case p n i j (e.Condition at x)) _ (condition_levels at x) (λ h. absurd (never_fits i j h)))
    (λ x b at y i j. at_levels (factor_case p n i j (e.Comparison x b at y)) _ (compared_levels x b at y) (λ h. absurd (never_fits i j h)))
    (λ b x ls i j. at_levels (factor_case p n i j (e.Chain b x ls)) _ (chain_levels b x ls) (λ h. absurd (never_fits i j h)))

-- a relation is a factor, or compares two
abbrev relation_case : ℕ → ℕ → Input → Input → Expression → Levels → Type 0
relation_case p n i j x l = Fits p n l.as_relation i j → Fits p n l.as_factor i j ⊎ IsComparison p n x i j

pub relation_cases : (p n : ℕ) (x : Expression) (i j : Input) → Fits p n (of_relation x) i j → Fits p n (of_factor x) i j ⊎ IsComparison p n x i j
unfolding of_expression of_primary of_relation of_factor
relation_cases p n = cases_expression (λ x. (i j : Input) → relation_case p n i j x (levels_of x))
    (λ v at i j. at_levels (relation_case p n i j (e.Literal v at)) _ (literal_levels v at) (λ h. inl h))
    (λ x i j. at_levels (relation_case p n i j (e.Named x)) _ (named_levels x) (λ h. inl h))
    (λ x i j. at_levels (relation_case p n i j (e.Event x)) _ (event_levels x) (λ h. inl h))
    (λ f a i j. at_levels (relation_case p n i j (e.Call f a)) _ (call_levels f a) (λ h. inl h))
    (λ at x i j. at_levels (relation_case p n i j (e.Parenthesized at x)) _ (parenthesized_levels at x) (λ h. inl h))
    (λ at x i j. at_levels (relation_case p n i j (e.Not at x)) _ (not_levels at x) (λ h. inl h))
    (λ at x i j. at_levels (relation_case p n i j (e.Condition at x)) _ (condition_levels at x) (λ h. absurd (never_fits i j h)))
    (λ x b at y i j. at_levels (relation_case p n i j (e.Comparison x b at y)) _ (compared_levels x b at y)
    (λ h. inr (record { left = x; operator = b; at = at; right = y; is = refl; fits = h })))
    (λ b x ls i j. at_levels (relation_case p n i j (e.Chain b x ls)) _ (chain_levels b x ls) (λ h. absurd (never_fits i j h)))

-- an expression is a relation, or begins with `??`, or is a chain
abbrev expression_case : ℕ → ℕ → Input → Input → Expression → Levels → Type 0
expression_case p n i j x l = Fits p n l.as_expression i j → Fits p n l.as_relation i j ⊎ IsCondition p n x i j ⊎ IsChain p n x i j

pub expression_cases : (p n : ℕ) (x : Expression) (i j : Input) → Fits p n (of_expression x) i j
    → Fits p n (of_relation x) i j ⊎ IsCondition p n x i j ⊎ IsChain p n x i j
unfolding of_expression of_primary of_relation of_factor
expression_cases p n = cases_expression (λ x. (i j : Input) → expression_case p n i j x (levels_of x))
    (λ v at i j. at_levels (expression_case p n i j (e.Literal v at)) _ (literal_levels v at) (λ h. inl h))
    (λ x i j. at_levels (expression_case p n i j (e.Named x)) _ (named_levels x) (λ h. inl h))
    (λ x i j. at_levels (expression_case p n i j (e.Event x)) _ (event_levels x) (λ h. inl h))
    (λ f a i j. at_levels (expression_case p n i j (e.Call f a)) _ (call_levels f a) (λ h. inl h))
    (λ at x i j. at_levels (expression_case p n i j (e.Parenthesized at x)) _ (parenthesized_levels at x) (λ h. inl h))
    (λ at x i j. at_levels (expression_case p n i j (e.Not at x)) _ (not_levels at x) (λ h. inl h))
    (λ at x i j. at_levels (expression_case p n i j (e.Condition at x)) _ (condition_levels at x)
    (λ h. inr (inl (record { at = at; operand = x; is = refl; fits = h }))))
    (λ x b at y i j. at_levels (expression_case p n i j (e.Comparison x b at y)) _ (compared_levels x b at y) (λ h. inl h))
    (λ b x ls i j. at_levels (expression_case p n i j (e.Chain b x ls)) _ (chain_levels b x ls)
    (λ h. inr (inr (record { operator = b; first = x; rest = ls; is = refl; fits = h }))))

-- the cases of a primary
pub data PrimaryCase (p n : ℕ) (x : Expression) (i m : Input) : Type 0 where
  A_literal : (v : Logic) (at : ℕ) → x ≡ e.Literal v at → Fits p n (just (LiteralAt v at)) i m → PrimaryCase p n x i m
  A_name : (y : Name) → x ≡ e.Named y → Fits p n (word_at y) i m → PrimaryCase p n x i m
  An_event : (y : Name) → x ≡ e.Event y → Fits p n (word_at y ▸ mark k.Tick ▸ just (This (codes "event"))) i m → PrimaryCase p n x i m
  A_call : (f a : Name) → x ≡ e.Call f a → Fits p n (word_at f ▸ mark k.LeftParen ▸ word_at a ▸ mark k.RightParen) i m → PrimaryCase p n x i m
  In_parentheses : (at : ℕ) (y : Expression) → x ≡ e.Parenthesized at y
      → Fits p n (just (MarkAt k.LeftParen at) ▸ in_parentheses (of_expression y) ▸ mark k.RightParen) i m → PrimaryCase p n x i m

pub primary_cases : (p n : ℕ) (x : Expression) (i j : Input) → Fits p n (of_primary x) i j → PrimaryCase p n x i j
unfolding of_primary
primary_cases p n = cases_expression (λ x. (i j : Input) → Fits p n (levels_of x).as_primary i j → PrimaryCase p n x i j)
    (λ v at i j. at_levels (λ l. Fits p n l.as_primary i j → PrimaryCase p n (e.Literal v at) i j) _ (literal_levels v at) (λ h. A_literal v at refl h))
    (λ x i j. at_levels (λ l. Fits p n l.as_primary i j → PrimaryCase p n (e.Named x) i j) _ (named_levels x) (λ h. A_name x refl h))
    (λ x i j. at_levels (λ l. Fits p n l.as_primary i j → PrimaryCase p n (e.Event x) i j) _ (event_levels x) (λ h. An_event x refl h))
    (λ f a i j. at_levels (λ l. Fits p n l.as_primary i j → PrimaryCase p n (e.Call f a) i j) _ (call_levels f a) (λ h. A_call f a refl h))
    (λ at x i j. at_levels (λ l. Fits p n l.as_primary i j → PrimaryCase p n (e.Parenthesized at x) i j) _ (parenthesized_levels at x)
    (λ h. In_parentheses at x refl h))
    (λ at x i j. at_levels (λ l. Fits p n l.as_primary i j → PrimaryCase p n (e.Not at x) i j) _ (not_levels at x) (λ h. absurd (never_fits i j h)))
    (λ at x i j. at_levels (λ l. Fits p n l.as_primary i j → PrimaryCase p n (e.Condition at x) i j) _ (condition_levels at x)
    (λ h. absurd (never_fits i j h)))
    (λ x b at y i j. at_levels (λ l. Fits p n l.as_primary i j → PrimaryCase p n (e.Comparison x b at y) i j) _ (compared_levels x b at y)
    (λ h. absurd (never_fits i j h)))
    (λ b x ls i j. at_levels (λ l. Fits p n l.as_primary i j → PrimaryCase p n (e.Chain b x ls) i j) _ (chain_levels b x ls) (λ h. absurd (never_fits i j h)))
