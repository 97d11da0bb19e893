use Rattle.std.proofs.Common.{arith}
use Rattle.std.proofs.lemmas.Grind.{common_steps}
use Rattle.sim_flat_blocks.specs.Plans.{block_processes_of}
use Rattle.sim_flat_blocks.proofs.block_processes.block_processes.Goals as goal

pub loop-each-preserved : goal.loop-each-preserved
unfolding block_processes_of
loop-each-preserved c = grind (arith, common_steps)

pub returns-clause-value : goal.returns-clause-value
unfolding block_processes_of
returns-clause-value c = grind (arith, common_steps)
