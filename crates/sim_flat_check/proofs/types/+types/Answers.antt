use Rattle.std.proofs.Common.{arith}
use Rattle.std.proofs.lemmas.Grind.{common_steps}
use Rattle.sim_flat_scope.specs.Scopes.{means}
use Rattle.sim_flat_check.specs.Carried.{Carried}
use Rattle.sim_flat_check.proofs.TypeResults.{operand_joined, literal_carried, condition_carried, comparison_carried}
use Rattle.sim_flat_check.proofs.types.+types.Goals as goal
use Rattle.sim_flat_check.proofs.TypeResults.{carried_rules}
use Rattle.sim_flat_check.specs.Carried.{carried_through}

pub judge-returns-in-Condition : goal.judge-returns-in-Condition
judge-returns-in-Condition t c =
    let left : Carried = record { type = c.literal-left.result.type_; named = c.literal-left.result.named; first = c.args.first.now } in
    condition_carried (means c.args.inner.now c.args.outer.now) c.args.first.now c.args.expression.now
    c.in-Condition.at c.in-Condition.operand c.in-Condition.is
    c.get-in-Condition.result.now c.get-in-Condition.ensures
    left (literal_carried c.args.first.now _ _ c.literal-left.ensures.type_ c.literal-left.ensures.named) _ _ _ c.judge-operand.ensures
    _ _ _ c.joined-both.ensures.type_ c.joined-both.ensures.named c.joined-both.ensures.first _ c.compared.ensures

pub judge-returns-in-Comparison : goal.judge-returns-in-Comparison
judge-returns-in-Comparison t c =
    let left : Carried = record { type = c.judge-left.result.type_; named = c.judge-left.result.named; first = c.judge-left.new.first } in
    comparison_carried (means c.args.inner.now c.args.outer.now) c.args.first.now c.args.expression.now
    c.in-Comparison.left c.in-Comparison.operator c.in-Comparison.at c.in-Comparison.right c.in-Comparison.is
    c.get-in-Comparison.result.now c.get-in-Comparison-2.result.now c.get-in-Comparison.ensures c.get-in-Comparison-2.ensures
    left c.judge-left.ensures _ _ _ c.judge-right.ensures
    _ _ _ c.joined-both-in-Comparison.ensures.type_ c.joined-both-in-Comparison.ensures.named
    c.joined-both-in-Comparison.ensures.first _ c.compared-in-Comparison.ensures

pub operand-returns : goal.operand-returns
operand-returns t c =
    let before : Carried = record { type = c.args.before.type_; named = c.args.before.named; first = c.args.first.now } in
    operand_joined (means c.args.inner.now c.args.outer.now) before c.args.next.now _ _ _ _ _ _
    c.judge-after.ensures c.joined.ensures.type_ c.joined.ensures.named c.joined.ensures.first

pub judge-returns-in-Literal : goal.judge-returns-in-Literal
judge-returns-in-Literal t c = grind (arith, carried_rules)

pub judge-returns-in-Named : goal.judge-returns-in-Named
judge-returns-in-Named t c = grind (arith, carried_rules)

pub judge-returns-in-Event : goal.judge-returns-in-Event
judge-returns-in-Event t c = grind (arith, carried_rules)

pub judge-returns-in-Call : goal.judge-returns-in-Call
judge-returns-in-Call t c = grind (arith, carried_rules)

pub judge-returns-in-Parenthesized : goal.judge-returns-in-Parenthesized
judge-returns-in-Parenthesized t c = grind (arith, carried_rules)

pub judge-returns-in-Not : goal.judge-returns-in-Not
judge-returns-in-Not t c = grind (arith, carried_rules)

pub judge-returns-in-Chain : goal.judge-returns-in-Chain
judge-returns-in-Chain t c = grind (arith, carried_rules)

pub operands-loop-next-preserved : goal.operands-loop-next-preserved
unfolding carried_through
operands-loop-next-preserved t c = grind (arith, common_steps)

pub operands-returns : goal.operands-returns
unfolding carried_through
operands-returns t c = grind (arith, common_steps)
