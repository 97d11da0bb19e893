use Rattle.std.proofs.Common.{arith}
use Rattle.std.proofs.lemmas.Grind.{common_steps}
use Rattle.sim_store_nets.proofs.lists.in_rows.Goals as goal

pub loop-list-preserved : goal.loop-list-preserved
loop-list-preserved c = grind (arith, common_steps)

pub returns : goal.returns
returns c = grind (arith, common_steps)
