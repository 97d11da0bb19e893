use Rattle.sim_flat_expansion.specs.Counts.{targets_counted}
use Rattle.std.proofs.Common.{arith}
use Rattle.std.proofs.lemmas.Grind.{common_steps}
use Rattle.sim_flat_expansion.proofs.counts.targets.Goals as goal

pub returns : goal.returns
unfolding targets_counted
returns c = grind (arith, common_steps)

pub loop-block_process-preserved : goal.loop-block_process-preserved
unfolding targets_counted
loop-block_process-preserved c = grind (arith, common_steps)
