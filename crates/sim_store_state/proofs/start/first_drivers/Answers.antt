use Rattle.std.proofs.Common.{arith}
use Rattle.std.proofs.lemmas.Grind.{common_steps}
use Rattle.sim_store_state.proofs.start.first_drivers.Goals as goal

pub returns : goal.returns
returns c = grind (arith, common_steps)

pub loop-process-preserved : goal.loop-process-preserved
loop-process-preserved c = grind (arith, common_steps)
