use Rattle.sim_flat_instances.specs.Libraries.{interfaces, entities_at}
use Rattle.std.proofs.Common.{arith}
use Rattle.std.proofs.lemmas.Grind.{common_steps}
use Rattle.sim_flat_instances.proofs.library.interfaces.Goals as goal

pub loop-entity-preserved : goal.loop-entity-preserved
unfolding interfaces entities_at
loop-entity-preserved c = grind (arith, common_steps)

pub returns : goal.returns
unfolding interfaces entities_at
returns c = grind (arith, common_steps)
