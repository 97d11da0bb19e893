use Rattle.std.proofs.Common.{arith}
use Rattle.std.proofs.lemmas.Grind.{common_steps}
use Rattle.sim_flat_graph.proofs.recursion.has_earlier.Goals as goal

pub returns-then-is_before : goal.returns-then-is_before
returns-then-is_before c = grind (arith, common_steps)

pub loop-instance-preserved : goal.loop-instance-preserved
loop-instance-preserved c = grind (arith, common_steps)

pub returns : goal.returns
returns c = grind (arith, common_steps)
