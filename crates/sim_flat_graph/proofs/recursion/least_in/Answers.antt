use Rattle.sim_flat_graph.specs.Recursion.{places_of}
use Rattle.sim_flat_graph.specs.Least.{least_of}
use Rattle.std.proofs.Common.{arith}
use Rattle.std.proofs.lemmas.Grind.{common_steps}
use Rattle.sim_flat_graph.proofs.recursion.least_in.Goals as goal

pub loop-instance-preserved : goal.loop-instance-preserved
unfolding places_of least_of
loop-instance-preserved c = grind (arith, common_steps)

pub returns : goal.returns
unfolding places_of least_of
returns c = grind (arith, common_steps)
