use Rattle.sim_flat_expansion.specs.Counts.{level_counted}
use Rattle.std.proofs.Common.{arith}
use Rattle.std.proofs.lemmas.Grind.{common_steps}
use Rattle.sim_flat_expansion.proofs.counts.next.Goals as goal

pub returns : goal.returns
unfolding level_counted
returns c = grind (arith, common_steps)

pub loop-at-preserved : goal.loop-at-preserved
unfolding level_counted
loop-at-preserved c = grind (arith, common_steps)
