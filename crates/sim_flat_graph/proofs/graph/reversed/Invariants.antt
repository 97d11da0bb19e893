use Rattle.std.proofs.Common.{◌≡◌, ◌++◌, ℕ, length, drop}
use Rattle.sim_flat_graph.specs.Graph as spec
use Rattle.sim_flat_graph.proofs.graph.reversed.Given as goal

abbrev pub invariant-loop-from : goal.invariant-loop-from
invariant-loop-from l =
    (length l.rows.items ≡ length l.graph)
    × ((n : ℕ) → spec.successors l.rows.items n ++ spec.leading n l.from (drop l.from l.graph) ≡ spec.leading n 0 l.graph)
