use Rattle.sim_flat_graph.specs.Graph.{blocks_of}
use Rattle.std.proofs.Common.{arith}
use Rattle.std.proofs.lemmas.Grind.{common_steps}
use Rattle.sim_flat_graph.proofs.graph.blocks_of.Goals as goal

pub returns : goal.returns
unfolding blocks_of
returns c = grind (arith, common_steps)

pub loop-instance-preserved : goal.loop-instance-preserved
unfolding blocks_of
loop-instance-preserved c = grind (arith, common_steps)
