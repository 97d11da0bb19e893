use Rattle.std.proofs.Common.{◌≡◌, length}
use Rattle.sim_flat_graph.specs.Search as spec
use Rattle.sim_flat_graph.proofs.search.reached.Given as goal

abbrev pub invariant-loop-at : goal.invariant-loop-at
invariant-loop-at l = (length l.search.marks ≡ length l.graph) × (l.search ≡ spec.searched l.graph l.from l.at)
