use Rattle.sim_flat_expansion.specs.Depth.{any_at}
use Rattle.std.proofs.Common.{arith}
use Rattle.std.proofs.lemmas.Grind.{common_steps}
use Rattle.sim_flat_expansion.proofs.depth.any.Goals as goal

pub returns : goal.returns
unfolding any_at
returns c = grind (arith, common_steps)

pub returns-then-chain_at : goal.returns-then-chain_at
unfolding any_at
returns-then-chain_at c = grind (arith, common_steps)

pub loop-instance-preserved : goal.loop-instance-preserved
unfolding any_at
loop-instance-preserved c = grind (arith, common_steps)
