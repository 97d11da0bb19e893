use Rattle.std.proofs.Common.{arith}
use Rattle.std.proofs.lemmas.Grind.{common_steps}
use Rattle.sim_flat_blocks.specs.BlockProcesses.{named_objects}
use Rattle.sim_flat_blocks.proofs.block_process.named_objects.Goals as goal

pub loop-name-preserved : goal.loop-name-preserved
unfolding named_objects
loop-name-preserved c = grind (arith, common_steps)

pub returns : goal.returns
unfolding named_objects
returns c = grind (arith, common_steps)
