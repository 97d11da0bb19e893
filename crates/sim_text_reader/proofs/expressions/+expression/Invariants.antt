use Rattle.std.proofs.Common.{true, [], ◌∷◌, ◌+◌, ◌*◌}
use Rattle.sim_text_grammar.proofs.OneItemATurn.{AsManyAsCome}
use Rattle.sim_text_grammar.specs.Expressions.{nested, more_operands, operand, goes_on}
use Rattle.sim_text_reader.proofs.expressions.+expression.Given as goal

abbrev pub decreases-nested : goal.decreases-nested
decreases-nested l = 11 * l.depth

abbrev pub decreases-primary : goal.decreases-primary
decreases-primary l = 11 * l.depth + 1

abbrev pub decreases-factor : goal.decreases-factor
decreases-factor l = 11 * l.depth + 2

abbrev pub decreases-relation : goal.decreases-relation
decreases-relation l = 11 * l.depth + 4

abbrev pub decreases-comparison : goal.decreases-comparison
decreases-comparison l = 11 * l.depth + 3

abbrev pub decreases-operand : goal.decreases-operand
decreases-operand l = 11 * l.depth + 5

abbrev pub decreases-more_operands : goal.decreases-more_operands
decreases-more_operands l = 11 * l.depth + 6

abbrev pub decreases-operands : goal.decreases-operands
decreases-operands l = 11 * l.depth + 7

abbrev pub decreases-chained : goal.decreases-chained
decreases-chained l = 11 * l.depth + 8

abbrev pub decreases-chain : goal.decreases-chain
decreases-chain l = 11 * l.depth + 9

abbrev pub decreases-expression_in : goal.decreases-expression_in
decreases-expression_in l = 11 * l.depth + 10

abbrev pub invariant-more_operands-loop-turn : goal.invariant-more_operands-loop-turn
invariant-more_operands-loop-turn l = AsManyAsCome (more_operands (nested l.depth) true l.operator (l.fn.second ∷ []) l.fn.tokens)
    (goes_on l.operator) (operand (nested l.depth)) l._turn-end l._turn l.found.items l.tokens
