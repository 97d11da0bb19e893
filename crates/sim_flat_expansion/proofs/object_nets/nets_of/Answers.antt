use Rattle.std.proofs.Common.{arith}
use Rattle.std.proofs.lemmas.Grind.{common_steps}
use Rattle.sim_flat_expansion.proofs.object_nets.nets_of.Goals as goal

pub loop-object-preserved : goal.loop-object-preserved
loop-object-preserved c = grind (arith, common_steps)

pub returns : goal.returns
returns c = grind (arith, common_steps)
