-- Each exit, and the loop.
use Rattle.std.proofs.Common.{arith}
use Rattle.std.proofs.lemmas.Grind.{common_steps}
use Rattle.sim_flat_design.specs.declared.expression.BooleanExpression.TheFolds.{the_lemmas}
use Rattle.sim_flat_design.proofs.expression.+boolean_expressions.Goals as goal

pub BooleanExpression::same-returns-in-Literal-matches : goal.BooleanExpression::same-returns-in-Literal-matches
BooleanExpression::same-returns-in-Literal-matches t c = grind (arith, the_lemmas)

pub BooleanExpression::same-returns-in_default : goal.BooleanExpression::same-returns-in_default
BooleanExpression::same-returns-in_default t c = grind (arith, the_lemmas)

pub BooleanExpression::same-returns-in_default-2 : goal.BooleanExpression::same-returns-in_default-2
BooleanExpression::same-returns-in_default-2 t c = grind (arith, the_lemmas)

pub BooleanExpression::same-returns-in-Variable-matches : goal.BooleanExpression::same-returns-in-Variable-matches
BooleanExpression::same-returns-in-Variable-matches t c = grind (arith, the_lemmas)

pub BooleanExpression::same-returns-in_default-matches : goal.BooleanExpression::same-returns-in_default-matches
BooleanExpression::same-returns-in_default-matches t c = grind (arith, the_lemmas)

pub BooleanExpression::same-returns-in_default-matches-9 : goal.BooleanExpression::same-returns-in_default-matches-9
BooleanExpression::same-returns-in_default-matches-9 t c = grind (arith, the_lemmas)

pub BooleanExpression::same-returns-in-Event-matches : goal.BooleanExpression::same-returns-in-Event-matches
BooleanExpression::same-returns-in-Event-matches t c = grind (arith, the_lemmas)

pub BooleanExpression::same-returns-in_default-matches-2 : goal.BooleanExpression::same-returns-in_default-matches-2
BooleanExpression::same-returns-in_default-matches-2 t c = grind (arith, the_lemmas)

pub BooleanExpression::same-returns-in_default-matches-2-2 : goal.BooleanExpression::same-returns-in_default-matches-2-2
BooleanExpression::same-returns-in_default-matches-2-2 t c = grind (arith, the_lemmas)

pub BooleanExpression::same-returns-in-Edge-matches : goal.BooleanExpression::same-returns-in-Edge-matches
BooleanExpression::same-returns-in-Edge-matches t c = grind (arith, the_lemmas)

pub BooleanExpression::same-returns-in_default-matches-3 : goal.BooleanExpression::same-returns-in_default-matches-3
BooleanExpression::same-returns-in_default-matches-3 t c = grind (arith, the_lemmas)

pub BooleanExpression::same-returns-in_default-matches-3-2 : goal.BooleanExpression::same-returns-in_default-matches-3-2
BooleanExpression::same-returns-in_default-matches-3-2 t c = grind (arith, the_lemmas)

pub BooleanExpression::same-returns-in_default-matches-3-3 : goal.BooleanExpression::same-returns-in_default-matches-3-3
BooleanExpression::same-returns-in_default-matches-3-3 t c = grind (arith, the_lemmas)

pub BooleanExpression::same-returns-in-Not-matches : goal.BooleanExpression::same-returns-in-Not-matches
BooleanExpression::same-returns-in-Not-matches t c = grind (arith, the_lemmas)

pub BooleanExpression::same-returns-in_default-matches-4 : goal.BooleanExpression::same-returns-in_default-matches-4
BooleanExpression::same-returns-in_default-matches-4 t c = grind (arith, the_lemmas)

pub BooleanExpression::same-returns-in_default-matches-4-2 : goal.BooleanExpression::same-returns-in_default-matches-4-2
BooleanExpression::same-returns-in_default-matches-4-2 t c = grind (arith, the_lemmas)

pub BooleanExpression::same-returns-in-Chain-matches : goal.BooleanExpression::same-returns-in-Chain-matches
BooleanExpression::same-returns-in-Chain-matches t c = grind (arith, the_lemmas)

pub BooleanExpression::same-returns-in_default-matches-5 : goal.BooleanExpression::same-returns-in_default-matches-5
BooleanExpression::same-returns-in_default-matches-5 t c = grind (arith, the_lemmas)

pub BooleanExpression::same-returns-in_default-matches-5-2 : goal.BooleanExpression::same-returns-in_default-matches-5-2
BooleanExpression::same-returns-in_default-matches-5-2 t c = grind (arith, the_lemmas)

pub BooleanExpression::same-returns-in_default-matches-5-3 : goal.BooleanExpression::same-returns-in_default-matches-5-3
BooleanExpression::same-returns-in_default-matches-5-3 t c = grind (arith, the_lemmas)

pub BooleanExpression::same-returns-in_default-matches-5-4 : goal.BooleanExpression::same-returns-in_default-matches-5-4
BooleanExpression::same-returns-in_default-matches-5-4 t c = grind (arith, the_lemmas)

pub BooleanExpression::same-returns-in-Condition-matches : goal.BooleanExpression::same-returns-in-Condition-matches
BooleanExpression::same-returns-in-Condition-matches t c = grind (arith, the_lemmas)

pub BooleanExpression::same-returns-in_default-matches-6 : goal.BooleanExpression::same-returns-in_default-matches-6
BooleanExpression::same-returns-in_default-matches-6 t c = grind (arith, the_lemmas)

pub BooleanExpression::same-returns-in_default-matches-6-2 : goal.BooleanExpression::same-returns-in_default-matches-6-2
BooleanExpression::same-returns-in_default-matches-6-2 t c = grind (arith, the_lemmas)

pub BooleanExpression::same-returns-in-LogicComparison-matches : goal.BooleanExpression::same-returns-in-LogicComparison-matches
BooleanExpression::same-returns-in-LogicComparison-matches t c = grind (arith, the_lemmas)

pub BooleanExpression::same-returns-in_default-matches-7 : goal.BooleanExpression::same-returns-in_default-matches-7
BooleanExpression::same-returns-in_default-matches-7 t c = grind (arith, the_lemmas)

pub BooleanExpression::same-returns-in_default-matches-7-2 : goal.BooleanExpression::same-returns-in_default-matches-7-2
BooleanExpression::same-returns-in_default-matches-7-2 t c = grind (arith, the_lemmas)

pub BooleanExpression::same-returns-in_default-matches-7-3 : goal.BooleanExpression::same-returns-in_default-matches-7-3
BooleanExpression::same-returns-in_default-matches-7-3 t c = grind (arith, the_lemmas)

pub BooleanExpression::same-returns-in_default-matches-7-4 : goal.BooleanExpression::same-returns-in_default-matches-7-4
BooleanExpression::same-returns-in_default-matches-7-4 t c = grind (arith, the_lemmas)

pub BooleanExpression::same-returns-in-BooleanComparison-matches : goal.BooleanExpression::same-returns-in-BooleanComparison-matches
BooleanExpression::same-returns-in-BooleanComparison-matches t c = grind (arith, the_lemmas)

pub BooleanExpression::same-returns-in_default-matches-8 : goal.BooleanExpression::same-returns-in_default-matches-8
BooleanExpression::same-returns-in_default-matches-8 t c = grind (arith, the_lemmas)

pub BooleanExpression::same-returns-in_default-matches-8-2 : goal.BooleanExpression::same-returns-in_default-matches-8-2
BooleanExpression::same-returns-in_default-matches-8-2 t c = grind (arith, the_lemmas)

pub BooleanExpression::same-returns-in_default-matches-8-3 : goal.BooleanExpression::same-returns-in_default-matches-8-3
BooleanExpression::same-returns-in_default-matches-8-3 t c = grind (arith, the_lemmas)

pub BooleanExpression::same-returns-in_default-matches-8-4 : goal.BooleanExpression::same-returns-in_default-matches-8-4
BooleanExpression::same-returns-in_default-matches-8-4 t c = grind (arith, the_lemmas)

pub same_boolean_expressions-returns-then-not-same : goal.same_boolean_expressions-returns-then-not-same
same_boolean_expressions-returns-then-not-same t c = grind (arith, common_steps)

pub same_boolean_expressions-loop-i-preserved : goal.same_boolean_expressions-loop-i-preserved
same_boolean_expressions-loop-i-preserved t c = grind (arith, common_steps)

pub same_boolean_expressions-returns : goal.same_boolean_expressions-returns
same_boolean_expressions-returns t c = grind (arith, common_steps)
