use Rattle.std.proofs.Common.{arith}
use Rattle.std.proofs.lemmas.Grind.{common_steps}
use Rattle.sim_store_nets.proofs.nets.are_views.Goals as goal

pub returns-then-views-numbers : goal.returns-then-views-numbers
returns-then-views-numbers c = grind (arith, common_steps)

pub returns-then-not-is_seen : goal.returns-then-not-is_seen
returns-then-not-is_seen c = grind (arith, common_steps)

pub loop-i-preserved : goal.loop-i-preserved
loop-i-preserved c = grind (arith, common_steps)

pub returns : goal.returns
returns c = grind (arith, common_steps)
