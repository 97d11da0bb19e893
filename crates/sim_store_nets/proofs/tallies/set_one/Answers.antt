use Rattle.std.proofs.Common.{arith}
use Rattle.std.proofs.lemmas.Grind.{common_steps}
use Rattle.sim_store_nets.proofs.tallies.set_one.Goals as goal

pub returns-then-place-rows : goal.returns-then-place-rows
returns-then-place-rows c = grind (arith, common_steps)

pub returns-else-place-rows : goal.returns-else-place-rows
returns-else-place-rows c = grind (arith, common_steps)
