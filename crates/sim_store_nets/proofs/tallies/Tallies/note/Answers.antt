use Rattle.std.proofs.Common.{arith}
use Rattle.std.proofs.lemmas.Grind.{common_steps}
use Rattle.sim_store_nets.proofs.tallies.Tallies.note.Goals as goal

pub returns-else-driver-len : goal.returns-else-driver-len
returns-else-driver-len c = grind (arith, common_steps)
