use Rattle.std.proofs.Common.{◌≡◌, ◌+◌, drop}
use Rattle.sim_flat_graph.specs.Least.{least_of}
use Rattle.sim_flat_graph.specs.Sources as spec
use Rattle.sim_flat_graph.proofs.sources.least_signal.Given as goal

abbrev pub invariant-loop-at : goal.invariant-loop-at
invariant-loop-at l =
    least_of l.least (spec.places_of l.counts (l.from + l.at) (drop l.at l.signals)) ≡ least_of l.fn.known (spec.places_of l.counts l.from l.signals)
