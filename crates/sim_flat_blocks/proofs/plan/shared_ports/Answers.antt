use Rattle.std.proofs.Common.{arith}
use Rattle.std.proofs.lemmas.Grind.{common_steps}
use Rattle.sim_flat_blocks.proofs.plan.shared_ports.Goals as goal

pub loop-each-preserved : goal.loop-each-preserved
loop-each-preserved c = grind (arith, common_steps)

pub returns : goal.returns
returns c = grind (arith, common_steps)
