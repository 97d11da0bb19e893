use Rattle.std.proofs.Common.{arith}
use Rattle.std.proofs.lemmas.Grind.{common_steps}
use Rattle.sim_flat_bodies.specs.Timed.{conditional_timed}
use Rattle.sim_flat_bodies.proofs.timed.conditionals_timed.Goals as goal

pub returns-then-not-waveform_timed : goal.returns-then-not-waveform_timed
unfolding conditional_timed
returns-then-not-waveform_timed c = grind (arith, common_steps)

pub loop-each-preserved : goal.loop-each-preserved
unfolding conditional_timed
loop-each-preserved c = grind (arith, common_steps)

pub returns : goal.returns
unfolding conditional_timed
returns c = grind (arith, common_steps)
