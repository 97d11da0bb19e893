use Rattle.std.proofs.Common.{arith}
use Rattle.std.proofs.lemmas.Grind.{common_steps}
use Rattle.sim_containers.proofs.entries.first_due.Goals as goal

pub returns-else-found-time-clause-none : goal.returns-else-found-time-clause-none
returns-else-found-time-clause-none c = grind (arith, common_steps)
