-- Readers of expressions.
use Rattle.std.specs.Prelude.{ℕ, zero, suc, Bool, true, false, List, [], ◌∷◌, Option, Some, None, Err}
use Rattle.sim_text_tokens.specs.declared.kind.Kind.{Kind}
use Rattle.sim_text_tokens.specs.declared.kind.Kind.TheVariants as k
use Rattle.sim_text_grammar.specs.declared.error.ParseError.TheVariants.{TooDeep}
use Rattle.sim_text_tree.specs.Name.{Name}
use Rattle.sim_logic.specs.declared.operator_symbol.Relational.{Relational}
use Rattle.sim_logic.specs.declared.operator_symbol.Relational.TheVariants as relational
use Rattle.sim_logic.specs.declared.operator_symbol.Logical.{Logical}
use Rattle.sim_logic.specs.declared.operator_symbol.Logical.TheVariants as logical
use Rattle.sim_text_tree.specs.declared.expression.Operand.{Operand, roll-Operand}
use Rattle.sim_text_tree.specs.declared.expression.Expression.{Expression}
use Rattle.sim_text_tree.specs.declared.expression.Expression.TheVariants as e
use Rattle.sim_text_tree.specs.Limits.{most_parentheses}
use Rattle.sim_text_grammar.specs.Readers.{Parser, ◌>>=◌, ◌>>◌, pure, peek, take_token, word, literal, event, expect, same_kind, many_from, left}
use Rattle.sim_text_tree.specs.Grammar.{logical_kind, is_repeatable}

-- the part of a primary after its first name
abbrev pub named_by : Name → Kind → Parser Expression
named_by n k.Tick = take_token >> event >> pure (e.Event n)
named_by n k.LeftParen = do
  take_token
  argument ← word
  expect k.RightParen
  pure (e.Call n argument)
named_by n _ = pure (e.Named n)

-- a primary that begins with a name
unfoldable pub named : Parser Expression
named = do
  n ← word
  kind ← peek
  named_by n kind

-- the logical operator whose token has this kind, if any
abbrev pub logical_of : Kind → Option Logical
logical_of k.And = Some logical.And
logical_of k.Or = Some logical.Or
logical_of k.Xor = Some logical.Xor
logical_of k.Xnor = Some logical.Xnor
logical_of k.Nand = Some logical.Nand
logical_of k.Nor = Some logical.Nor
logical_of _ = None

-- whether the operator is repeated
abbrev pub goes_on : Logical → Kind → Bool
goes_on o kind = same_kind kind (logical_kind o)

-- The parameter reads an expression in parentheses, from the `(`.
module _ (nested : Parser Expression) where
  -- a primary, by the kind of its first token
  abbrev pub primary_by : Kind → Parser Expression
  primary_by k.Literal = do
    found ← literal
    pure (e.Literal found.0 found.1)
  primary_by k.LeftParen = nested
  primary_by _ = named

  -- a primary (9.1)
  unfoldable pub primary : Parser Expression
  primary = peek >>= primary_by

  -- a factor, by the kind of its first token
  abbrev pub factor_by : Kind → Parser Expression
  factor_by k.Not = do
    at ← take_token
    operand ← primary
    pure (e.Not at operand)
  factor_by _ = primary

  -- a factor (9.1)
  unfoldable pub factor : Parser Expression
  factor = peek >>= factor_by

  -- a comparison, from its operator
  abbrev pub comparison : Expression → Relational → Parser Expression
  comparison a operator = do
    at ← take_token
    b ← factor
    pure (e.Comparison a operator at b)

  -- a relation, from the token after its first operand
  abbrev pub relation_by : Expression → Kind → Parser Expression
  relation_by a k.Equal = comparison a relational.Equal
  relation_by a k.Unequal = comparison a relational.Unequal
  relation_by a _ = pure a

  -- a relation (9.1)
  unfoldable pub relation : Parser Expression
  relation = do
    a ← factor
    kind ← peek
    relation_by a kind

  -- an operator and the operand after it
  unfoldable pub operand : Parser Operand
  operand = do
    at ← take_token
    found ← relation
    pure (roll-Operand (record { operator_at = at; operand = found }))

  -- further operands, if the operator may be repeated
  abbrev pub more_operands : Bool → Logical → List Operand → Parser (List Operand)
  more_operands true o found = λ i. many_from (goes_on o) operand (left i) found i
  more_operands false o found = pure found

  -- the operands after the first: one, and perhaps more
  unfoldable pub operands : Logical → Parser (List Operand)
  operands o = do
    second ← operand
    more_operands (is_repeatable o) o (second ∷ [])

  -- an expression, from its first operator
  abbrev pub chain_by : Expression → Option Logical → Parser Expression
  chain_by first (Some o) = do
    rest ← operands o
    pure (e.Chain o first rest)
  chain_by first None = pure first

  -- relations, with a logical operator between adjacent ones
  unfoldable pub chain : Parser Expression
  chain = do
    first ← relation
    kind ← peek
    chain_by first (logical_of kind)

  -- an expression, by the kind of its first token
  abbrev pub expression_by : Kind → Parser Expression
  expression_by k.Condition = do
    at ← take_token
    operand ← primary
    pure (e.Condition at operand)
  expression_by _ = chain

  -- an expression (9.1)
  unfoldable pub expression_in : Parser Expression
  expression_in = peek >>= expression_by

-- an expression in parentheses, with at most this many pairs open
unfoldable pub nested : ℕ → Parser Expression
nested zero = λ i. Err (TooDeep (left i))
nested (suc depth) = do
  at ← take_token
  inner ← expression_in (nested depth)
  expect k.RightParen
  pure (e.Parenthesized at inner)

-- an expression with at most as many open parentheses as allowed (9.1)
unfoldable pub expression : Parser Expression
expression = expression_in (nested most_parentheses)
