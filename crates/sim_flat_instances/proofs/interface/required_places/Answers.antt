use Rattle.sim_flat_instances.specs.PortMaps.{required_from}
use Rattle.std.proofs.Common.{arith}
use Rattle.std.proofs.lemmas.Grind.{common_steps}
use Rattle.sim_flat_instances.proofs.interface.required_places.Goals as goal

pub loop-place-preserved : goal.loop-place-preserved
unfolding required_from
loop-place-preserved c = grind (arith, common_steps)

pub returns : goal.returns
unfolding required_from
returns c = grind (arith, common_steps)
