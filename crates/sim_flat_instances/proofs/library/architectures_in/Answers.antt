use Rattle.sim_flat_instances.specs.Libraries.{architectures_in, bodies_at}
use Rattle.std.proofs.Common.{arith}
use Rattle.std.proofs.lemmas.Grind.{common_steps}
use Rattle.sim_flat_instances.proofs.library.architectures_in.Goals as goal

pub loop-unit-preserved : goal.loop-unit-preserved
unfolding architectures_in bodies_at
loop-unit-preserved c = grind (arith, common_steps)

pub returns : goal.returns
unfolding architectures_in bodies_at
returns c = grind (arith, common_steps)
