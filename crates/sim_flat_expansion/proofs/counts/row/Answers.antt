use Rattle.sim_flat_expansion.specs.Counts.{blocks_counted}
use Rattle.std.proofs.Common.{arith}
use Rattle.std.proofs.lemmas.Grind.{common_steps}
use Rattle.sim_flat_expansion.proofs.counts.row.Goals as goal

pub returns : goal.returns
unfolding blocks_counted
returns c = grind (arith, common_steps)

pub loop-instance-preserved : goal.loop-instance-preserved
unfolding blocks_counted
loop-instance-preserved c = grind (arith, common_steps)
