use Rattle.sim_flat_expansion.specs.Expanding.{processes_expanded}
use Rattle.std.proofs.Common.{arith}
use Rattle.std.proofs.lemmas.Grind.{common_steps}
use Rattle.sim_flat_expansion.proofs.processes.processes.Goals as goal

pub returns : goal.returns
unfolding processes_expanded
returns c = grind (arith, common_steps)

pub loop-block_process-preserved : goal.loop-block_process-preserved
unfolding processes_expanded
loop-block_process-preserved c = grind (arith, common_steps)
