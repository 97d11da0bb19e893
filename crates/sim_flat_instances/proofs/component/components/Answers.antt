use Rattle.sim_flat_instances.specs.Components.{components}
use Rattle.std.proofs.Common.{arith}
use Rattle.std.proofs.lemmas.Grind.{common_steps}
use Rattle.sim_flat_instances.proofs.component.components.Goals as goal

pub returns : goal.returns
unfolding components
returns c = grind (arith, common_steps)

pub loop-declaration-preserved : goal.loop-declaration-preserved
unfolding components
loop-declaration-preserved c = grind (arith, common_steps)
