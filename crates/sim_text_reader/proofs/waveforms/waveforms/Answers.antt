use Rattle.std.proofs.Common.{arith}
use Rattle.std.proofs.lemmas.Grind.{common_steps}
use Rattle.sim_text_grammar.specs.Readers.{left}
use Rattle.sim_text_grammar.specs.Waveforms.{alternatives_from}
use Rattle.sim_text_tree.proofs.Turns.{one_more, no_more}
use Rattle.sim_text_reader.proofs.waveforms.waveforms.Goals as goal

pub returns-in_err-waveform : goal.returns-in_err-waveform
unfolding alternatives_from left
returns-in_err-waveform c = let e = one_more c.loop-turn.invariant c.loop-turn-test.true in grind (arith, common_steps)

pub returns-then-not-eat : goal.returns-then-not-eat
unfolding alternatives_from left
returns-then-not-eat c = let e = one_more c.loop-turn.invariant c.loop-turn-test.true in grind (arith, common_steps)

pub returns-in_err-push : goal.returns-in_err-push
unfolding alternatives_from left
returns-in_err-push c = let e = one_more c.loop-turn.invariant c.loop-turn-test.true in grind (arith, common_steps)

pub returns-then-not-eat-2 : goal.returns-then-not-eat-2
unfolding alternatives_from left
returns-then-not-eat-2 c = let e = one_more c.loop-turn.invariant c.loop-turn-test.true in grind (arith, common_steps)

pub loop-turn-preserved : goal.loop-turn-preserved
unfolding alternatives_from left
loop-turn-preserved c = let e = one_more c.loop-turn.invariant c.loop-turn-test.true in grind (arith, common_steps)

pub returns : goal.returns
unfolding alternatives_from left
returns c = let e = no_more c.loop-turn.invariant c.loop-turn-test.false in grind (arith, common_steps)
