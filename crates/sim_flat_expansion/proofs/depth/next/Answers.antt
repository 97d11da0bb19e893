use Rattle.sim_flat_expansion.specs.Depth.{next_table}
use Rattle.std.proofs.Common.{arith}
use Rattle.std.proofs.lemmas.Grind.{common_steps}
use Rattle.sim_flat_expansion.proofs.depth.next.Goals as goal

pub returns : goal.returns
unfolding next_table
returns c = grind (arith, common_steps)

pub loop-block-preserved : goal.loop-block-preserved
unfolding next_table
loop-block-preserved c = grind (arith, common_steps)
