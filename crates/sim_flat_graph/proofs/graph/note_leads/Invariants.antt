use Rattle.std.proofs.Common.{◌≡◌, ◌++◌, ℕ, length, drop}
use Rattle.sim_flat_graph.specs.Graph as spec
use Rattle.sim_flat_graph.proofs.graph.note_leads.Given as goal

abbrev pub invariant-loop-target : goal.invariant-loop-target
invariant-loop-target l =
    (length l.rows.items ≡ length l.fn.rows.items)
    × ((n : ℕ) → spec.successors l.rows.items n ++ spec.each_time l.from n (drop l.target-index l.targets)
    ≡ spec.successors l.fn.rows.items n ++ spec.each_time l.from n l.targets)
