use Rattle.std.proofs.Common.{arith}
use Rattle.std.proofs.lemmas.Grind.{common_steps}
use Rattle.sim_flat_blocks.specs.Plans.{instances_of}
use Rattle.sim_flat_blocks.proofs.instances.instances.Goals as goal

pub loop-each-preserved : goal.loop-each-preserved
unfolding instances_of
loop-each-preserved c = grind (arith, common_steps)

pub returns : goal.returns
unfolding instances_of
returns c = grind (arith, common_steps)
