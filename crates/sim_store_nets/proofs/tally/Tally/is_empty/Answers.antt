use Rattle.std.proofs.Common.{arith}
use Rattle.std.proofs.lemmas.Grind.{common_steps}
use Rattle.sim_store_nets.proofs.tally.Tally.is_empty.Goals as goal

pub returns : goal.returns
returns c = grind (arith, common_steps)
