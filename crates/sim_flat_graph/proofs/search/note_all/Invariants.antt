use Rattle.std.proofs.Common.{◌≡◌, length, drop}
use Rattle.sim_flat_graph.specs.Search as spec
use Rattle.sim_flat_graph.proofs.search.note_all.Given as goal

abbrev pub invariant-loop-n : goal.invariant-loop-n
invariant-loop-n l =
    (length l.search.marks ≡ length l.fn.search.marks) × (spec.all_noted l.search (drop l.n-index l.numbers) ≡ spec.all_noted l.fn.search l.numbers)
