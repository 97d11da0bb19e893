use Rattle.std.proofs.Common.{arith}
use Rattle.std.proofs.lemmas.Grind.{common_steps}
use Rattle.sim_flat_blocks.specs.FirstValues.{value_of_each}
use Rattle.sim_flat_blocks.proofs.variables.add_each.Goals as goal

pub loop-name-preserved : goal.loop-name-preserved
unfolding value_of_each
loop-name-preserved c = grind (arith, common_steps)

pub returns : goal.returns
unfolding value_of_each
returns c = grind (arith, common_steps)
