use Rattle.std.proofs.Common.{arith}
use Rattle.std.proofs.lemmas.Grind.{common_steps}
use Rattle.sim_store_nets.proofs.counting.no_places.Goals as goal

pub loop-driver-preserved : goal.loop-driver-preserved
loop-driver-preserved c = grind (arith, common_steps)
