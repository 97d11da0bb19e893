use Rattle.sim_flat_expansion.specs.Counts.{alone}
use Rattle.std.proofs.Common.{arith}
use Rattle.std.proofs.lemmas.Grind.{common_steps}
use Rattle.sim_flat_expansion.proofs.counts.alone.Goals as goal

pub returns : goal.returns
unfolding alone
returns c = grind (arith, common_steps)

pub loop-block-preserved : goal.loop-block-preserved
unfolding alone
loop-block-preserved c = grind (arith, common_steps)
