use Rattle.std.proofs.Common.{arith}
use Rattle.std.proofs.lemmas.Grind.{common_steps}
use Rattle.sim_text_grammar.proofs.OneItemATurn.{one_after, none_after}
use Rattle.sim_text_reader.proofs.waveforms.waveform.Goals as goal
use Rattle.sim_text_grammar.proofs.Parts.{halves}
use Rattle.sim_text_grammar.specs.Readers.{sees}
use Rattle.sim_text_grammar.specs.Waveforms.{waveform}

pub returns-then-not-sees : goal.returns-then-not-sees
returns-then-not-sees c = let e = one_after c.loop-turn.invariant c.loop-turn-test.true in grind (arith, common_steps)

pub returns-in_err-add : goal.returns-in_err-add
returns-in_err-add c = let e = one_after c.loop-turn.invariant c.loop-turn-test.true in grind (arith, common_steps)

pub loop-turn-preserved : goal.loop-turn-preserved
loop-turn-preserved c = let e = one_after c.loop-turn.invariant c.loop-turn-test.true in grind (arith, common_steps)

pub returns : goal.returns
returns c = let e = none_after c.loop-turn.invariant c.loop-turn-test.false in grind (arith, common_steps)

pub returns-in_err-found : goal.returns-in_err-found
unfolding waveform sees
returns-in_err-found c = grind (arith, common_steps, halves)

pub loop-turn-init : goal.loop-turn-init
unfolding waveform sees
loop-turn-init c = grind (arith, common_steps, halves)
