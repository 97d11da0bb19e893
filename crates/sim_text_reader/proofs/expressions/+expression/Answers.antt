use Rattle.std.proofs.Common.{arith}
use Rattle.std.proofs.lemmas.Grind.{common_steps}
use Rattle.sim_text_grammar.specs.Readers.{sees}
use Rattle.sim_text_tree.proofs.Turns.{deeper}
use Rattle.sim_text_grammar.proofs.OneItemATurn.{one_more, no_more}
use Rattle.sim_text_grammar.specs.Expressions.{nested, relation}
use Rattle.sim_text_reader.proofs.expressions.+expression.Goals as goal

pub more_operands-returns-then-not-sees : goal.more_operands-returns-then-not-sees
unfolding sees
more_operands-returns-then-not-sees t c = let e = one_more c.loop-turn.invariant c.loop-turn-test.true in grind (arith, common_steps)

pub more_operands-returns-in_err-push : goal.more_operands-returns-in_err-push
unfolding sees
more_operands-returns-in_err-push t c = let e = one_more c.loop-turn.invariant c.loop-turn-test.true in grind (arith, common_steps)

pub more_operands-loop-turn-preserved : goal.more_operands-loop-turn-preserved
unfolding sees
more_operands-loop-turn-preserved t c = let e = one_more c.loop-turn.invariant c.loop-turn-test.true in grind (arith, common_steps)

pub more_operands-returns : goal.more_operands-returns
more_operands-returns t c = let e = no_more c.loop-turn.invariant c.loop-turn-test.false in grind (arith, common_steps)

pub nested-returns : goal.nested-returns
unfolding nested
nested-returns t c =
    let e = deeper (λ n. nested n c.args.tokens.now) c.args.depth (omega arith) in
    grind (arith, common_steps)

pub nested-returns-in_err-inner : goal.nested-returns-in_err-inner
unfolding nested
nested-returns-in_err-inner t c =
    let e = deeper (λ n. nested n c.args.tokens.now) c.args.depth (omega arith) in
    grind (arith, common_steps)

pub relation-returns-in-Unequal : goal.relation-returns-in-Unequal
unfolding relation
relation-returns-in-Unequal t c = grind (arith, common_steps)
