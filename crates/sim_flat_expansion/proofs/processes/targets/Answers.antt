use Rattle.std.proofs.Common.{arith}
use Rattle.std.proofs.lemmas.Grind.{common_steps}
use Rattle.sim_flat_expansion.specs.Expanding.{targets_expanded}
use Rattle.sim_flat_expansion.proofs.processes.targets.Goals as goal

pub loop-target-preserved : goal.loop-target-preserved
unfolding targets_expanded
loop-target-preserved c = grind (arith, common_steps)

pub returns : goal.returns
unfolding targets_expanded
returns c = grind (arith, common_steps)
