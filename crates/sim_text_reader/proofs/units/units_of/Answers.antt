use Rattle.std.proofs.Common.{arith}
use Rattle.std.proofs.lemmas.Grind.{common_steps}
use Rattle.sim_text_grammar.specs.Readers.{sees}
use Rattle.sim_text_grammar.proofs.OneItemATurn.{one_more, no_more}
use Rattle.sim_text_reader.proofs.units.units_of.Goals as goal

pub returns-then-sees : goal.returns-then-sees
unfolding sees
returns-then-sees c = let e = one_more c.loop-turn.invariant c.loop-turn-test.true in grind (arith, common_steps)

pub returns-in_err-add : goal.returns-in_err-add
unfolding sees
returns-in_err-add c = let e = one_more c.loop-turn.invariant c.loop-turn-test.true in grind (arith, common_steps)

pub loop-turn-preserved : goal.loop-turn-preserved
unfolding sees
loop-turn-preserved c = let e = one_more c.loop-turn.invariant c.loop-turn-test.true in grind (arith, common_steps)

pub returns : goal.returns
returns c = let e = no_more c.loop-turn.invariant c.loop-turn-test.false in grind (arith, common_steps)
