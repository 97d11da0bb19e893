use Rattle.std.proofs.Common.{arith}
use Rattle.std.proofs.lemmas.Grind.{common_steps}
use Rattle.sim_store_simulation.proofs.waiting.set_aside.Goals as goal

pub put-requires : goal.put-requires
put-requires c = grind (arith, common_steps)

pub put-requires-in-Some : goal.put-requires-in-Some
put-requires-in-Some c = grind (arith, common_steps)

pub overflow_add-from : goal.overflow_add-from
overflow_add-from c = grind (arith, common_steps)

pub loop-number-smaller : goal.loop-number-smaller
loop-number-smaller c = grind (arith, common_steps)

pub loop-number-preserved : goal.loop-number-preserved
loop-number-preserved c = grind (arith, common_steps)
