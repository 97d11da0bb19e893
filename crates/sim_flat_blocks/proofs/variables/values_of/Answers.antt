use Rattle.std.proofs.Common.{arith}
use Rattle.std.proofs.lemmas.Grind.{common_steps}
use Rattle.sim_flat_blocks.specs.FirstValues.{values_of}
use Rattle.sim_flat_blocks.proofs.variables.values_of.Goals as goal

pub loop-variable-preserved : goal.loop-variable-preserved
unfolding values_of
loop-variable-preserved c = grind (arith, common_steps)

pub returns : goal.returns
unfolding values_of
returns c = grind (arith, common_steps)
