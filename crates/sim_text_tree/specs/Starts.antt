-- Where an expression starts: the place of its first token.
use Rattle.std.specs.Prelude.{ℕ}
use Rattle.sim_text_tree.specs.declared.expression.Expression.{Expression}
use Rattle.sim_text_tree.specs.declared.expression.Expression.TheOpen as x
use Rattle.sim_text_tree.specs.declared.expression.Expression.TheFolds as folds

-- an operand starts with its operator
abbrev pub operand_start : x.Operand-F ℕ ℕ → ℕ
operand_start o = o.operator_at

-- where an expression starts, from the starts of its parts
abbrev pub expression_start : x.Expression-F ℕ ℕ → ℕ
expression_start (x.Literal value at) = at
expression_start (x.Named n) = n.at
expression_start (x.Event n) = n.at
expression_start (x.Call f a) = f.at
expression_start (x.Parenthesized at inner) = at
expression_start (x.Not at operand) = at
expression_start (x.Condition at operand) = at
expression_start (x.Comparison left operator at right) = left
expression_start (x.Chain operator first rest) = first

-- where an expression starts
unfoldable pub start_of : Expression → ℕ
start_of = folds.fold-Expression ℕ ℕ expression_start operand_start
