use Rattle.std.proofs.Common.{◌≡◌, ◌++◌, drop}
use Rattle.sim_flat_graph.specs.Graph as spec
use Rattle.sim_flat_graph.proofs.graph.graph_of.Given as goal

abbrev pub invariant-loop-block : goal.invariant-loop-block
invariant-loop-block l = l.rows ++ spec.graph_of (drop l.block-index l.blocks) ≡ spec.graph_of l.blocks
