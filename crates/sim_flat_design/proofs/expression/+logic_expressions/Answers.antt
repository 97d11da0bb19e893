-- Each exit, and the loop.
use Rattle.std.proofs.Common.{arith}
use Rattle.std.proofs.lemmas.Grind.{common_steps}
use Rattle.sim_flat_design.specs.declared.expression.LogicExpression.TheFolds.{the_lemmas}
use Rattle.sim_flat_design.proofs.expression.+logic_expressions.Goals as goal

pub LogicExpression::same-returns-in-Literal-matches : goal.LogicExpression::same-returns-in-Literal-matches
LogicExpression::same-returns-in-Literal-matches t c = grind (arith, the_lemmas)

pub LogicExpression::same-returns-in_default : goal.LogicExpression::same-returns-in_default
LogicExpression::same-returns-in_default t c = grind (arith, the_lemmas)

pub LogicExpression::same-returns-in_default-2 : goal.LogicExpression::same-returns-in_default-2
LogicExpression::same-returns-in_default-2 t c = grind (arith, the_lemmas)

pub LogicExpression::same-returns-in-Object-matches : goal.LogicExpression::same-returns-in-Object-matches
LogicExpression::same-returns-in-Object-matches t c = grind (arith, the_lemmas)

pub LogicExpression::same-returns-in_default-matches : goal.LogicExpression::same-returns-in_default-matches
LogicExpression::same-returns-in_default-matches t c = grind (arith, the_lemmas)

pub LogicExpression::same-returns-in_default-matches-5 : goal.LogicExpression::same-returns-in_default-matches-5
LogicExpression::same-returns-in_default-matches-5 t c = grind (arith, the_lemmas)

pub LogicExpression::same-returns-in-Variable-matches : goal.LogicExpression::same-returns-in-Variable-matches
LogicExpression::same-returns-in-Variable-matches t c = grind (arith, the_lemmas)

pub LogicExpression::same-returns-in_default-matches-2 : goal.LogicExpression::same-returns-in_default-matches-2
LogicExpression::same-returns-in_default-matches-2 t c = grind (arith, the_lemmas)

pub LogicExpression::same-returns-in_default-matches-2-2 : goal.LogicExpression::same-returns-in_default-matches-2-2
LogicExpression::same-returns-in_default-matches-2-2 t c = grind (arith, the_lemmas)

pub LogicExpression::same-returns-in-Not-matches : goal.LogicExpression::same-returns-in-Not-matches
LogicExpression::same-returns-in-Not-matches t c = grind (arith, the_lemmas)

pub LogicExpression::same-returns-in_default-matches-3 : goal.LogicExpression::same-returns-in_default-matches-3
LogicExpression::same-returns-in_default-matches-3 t c = grind (arith, the_lemmas)

pub LogicExpression::same-returns-in_default-matches-3-2 : goal.LogicExpression::same-returns-in_default-matches-3-2
LogicExpression::same-returns-in_default-matches-3-2 t c = grind (arith, the_lemmas)

pub LogicExpression::same-returns-in-Chain-matches : goal.LogicExpression::same-returns-in-Chain-matches
LogicExpression::same-returns-in-Chain-matches t c = grind (arith, the_lemmas)

pub LogicExpression::same-returns-in_default-matches-4 : goal.LogicExpression::same-returns-in_default-matches-4
LogicExpression::same-returns-in_default-matches-4 t c = grind (arith, the_lemmas)

pub LogicExpression::same-returns-in_default-matches-4-2 : goal.LogicExpression::same-returns-in_default-matches-4-2
LogicExpression::same-returns-in_default-matches-4-2 t c = grind (arith, the_lemmas)

pub LogicExpression::same-returns-in_default-matches-4-3 : goal.LogicExpression::same-returns-in_default-matches-4-3
LogicExpression::same-returns-in_default-matches-4-3 t c = grind (arith, the_lemmas)

pub LogicExpression::same-returns-in_default-matches-4-4 : goal.LogicExpression::same-returns-in_default-matches-4-4
LogicExpression::same-returns-in_default-matches-4-4 t c = grind (arith, the_lemmas)

pub same_logic_expressions-returns-then-not-same : goal.same_logic_expressions-returns-then-not-same
same_logic_expressions-returns-then-not-same t c = grind (arith, common_steps)

pub same_logic_expressions-loop-i-preserved : goal.same_logic_expressions-loop-i-preserved
same_logic_expressions-loop-i-preserved t c = grind (arith, common_steps)

pub same_logic_expressions-returns : goal.same_logic_expressions-returns
same_logic_expressions-returns t c = grind (arith, common_steps)
