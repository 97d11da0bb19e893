use Rattle.sim_flat_check.specs.Entities.{entity_names}
use Rattle.sim_flat_instances.specs.Libraries.{entities_at}
use Rattle.std.proofs.Common.{arith}
use Rattle.std.proofs.lemmas.Grind.{common_steps}
use Rattle.sim_flat_check.proofs.entities.names_of.Goals as goal

pub returns : goal.returns
unfolding entity_names entities_at
returns c = grind (arith, common_steps)

pub loop-entity-preserved : goal.loop-entity-preserved
unfolding entity_names entities_at
loop-entity-preserved c = grind (arith, common_steps)
