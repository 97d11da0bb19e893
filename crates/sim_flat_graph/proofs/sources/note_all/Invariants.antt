use Rattle.std.proofs.Common.{◌≡◌, drop}
use Rattle.sim_flat_graph.specs.Sources as spec
use Rattle.sim_flat_graph.proofs.sources.note_all.Given as goal

abbrev pub invariant-loop-place : goal.invariant-loop-place
invariant-loop-place l = spec.all_noted l.counts.items (drop l.place-index l.places) ≡ spec.all_noted l.fn.counts.items l.places
