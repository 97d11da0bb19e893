use Rattle.std.proofs.Common.{rules}
use Rattle.sim_text_tree.proofs.ExpressionStarts.{starts}
use Rattle.sim_text_tree.proofs.expression.Expression.+start.Goals as goal

pub returns-in-Comparison : goal.returns-in-Comparison
returns-in-Comparison t c = search (rules, starts)
