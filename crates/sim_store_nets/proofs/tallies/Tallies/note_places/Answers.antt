use Rattle.std.proofs.Common.{arith}
use Rattle.std.proofs.lemmas.Grind.{common_steps}
use Rattle.sim_store_nets.proofs.tallies.Tallies.note_places.Goals as goal

pub returns : goal.returns
returns c = grind (arith, common_steps)
