use Rattle.std.proofs.Common.{◌≡◌, ◌++◌, drop}
use Rattle.sim_flat_graph.specs.Graph as spec
use Rattle.sim_flat_graph.proofs.graph.blocks_of.Given as goal

abbrev pub invariant-loop-instance : goal.invariant-loop-instance
invariant-loop-instance l = l.found ++ spec.blocks_of (drop l.instance-index l.instances) ≡ spec.blocks_of l.instances
