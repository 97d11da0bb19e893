use Rattle.std.proofs.Common.{arith}
use Rattle.std.proofs.lemmas.Grind.{common_steps}
use Rattle.sim_containers.proofs.stamps.Stamps.contains.Goals as goal

pub returns-then-number-len : goal.returns-then-number-len
returns-then-number-len c = grind (arith, common_steps)

pub returns-else-number-len : goal.returns-else-number-len
returns-else-number-len c = grind (arith, common_steps)
