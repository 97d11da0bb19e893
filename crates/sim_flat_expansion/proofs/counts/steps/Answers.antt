use Rattle.sim_flat_expansion.specs.Counts.{steps_counted}
use Rattle.std.proofs.Common.{arith}
use Rattle.std.proofs.lemmas.Grind.{common_steps}
use Rattle.sim_flat_expansion.proofs.counts.steps.Goals as goal

pub returns : goal.returns
unfolding steps_counted
returns c = grind (arith, common_steps)

pub loop-instance-preserved : goal.loop-instance-preserved
unfolding steps_counted
loop-instance-preserved c = grind (arith, common_steps)
