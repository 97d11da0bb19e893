use Rattle.std.proofs.Common.{arith}
use Rattle.std.proofs.lemmas.Grind.{common_steps}
use Rattle.sim_text_grammar.proofs.OneItemATurn.{one_more, no_more}
use Rattle.sim_text_reader.proofs.concurrents.concurrents.Goals as goal

pub returns-then-not-begins_concurrent : goal.returns-then-not-begins_concurrent
returns-then-not-begins_concurrent c = let e = one_more c.loop-turn.invariant c.loop-turn-test.true in grind (arith, common_steps)

pub returns-in_err-push : goal.returns-in_err-push
returns-in_err-push c = let e = one_more c.loop-turn.invariant c.loop-turn-test.true in grind (arith, common_steps)

pub loop-turn-preserved : goal.loop-turn-preserved
loop-turn-preserved c = let e = one_more c.loop-turn.invariant c.loop-turn-test.true in grind (arith, common_steps)

pub returns : goal.returns
returns c = let e = no_more c.loop-turn.invariant c.loop-turn-test.false in grind (arith, common_steps)
