use Rattle.sim_flat_expansion.specs.Counts.{first_table}
use Rattle.std.proofs.Common.{arith}
use Rattle.std.proofs.lemmas.Grind.{common_steps}
use Rattle.sim_flat_expansion.proofs.counts.first.Goals as goal

pub returns : goal.returns
unfolding first_table
returns c = grind (arith, common_steps)

pub loop-block-preserved : goal.loop-block-preserved
unfolding first_table
loop-block-preserved c = grind (arith, common_steps)
