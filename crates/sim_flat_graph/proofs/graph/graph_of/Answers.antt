use Rattle.sim_flat_graph.specs.Graph.{graph_of}
use Rattle.std.proofs.Common.{arith}
use Rattle.std.proofs.lemmas.Grind.{common_steps}
use Rattle.sim_flat_graph.proofs.graph.graph_of.Goals as goal

pub loop-block-preserved : goal.loop-block-preserved
unfolding graph_of
loop-block-preserved c = grind (arith, common_steps)

pub returns : goal.returns
unfolding graph_of
returns c = grind (arith, common_steps)
