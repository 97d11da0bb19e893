use Rattle.std.proofs.Common.{◌≡◌, map, drop}
use Rattle.sim_flat_graph.specs.Least.{least_of}
use Rattle.sim_flat_graph.specs.Sources as spec
use Rattle.sim_flat_graph.proofs.sources.least_port.Given as goal

abbrev pub invariant-loop-place : goal.invariant-loop-place
invariant-loop-place l =
    least_of l.least (spec.places_of l.counts l.place (map (λ p. p.object) (drop l.place l.ports)))
    ≡ least_of l.fn.known (spec.places_of l.counts 0 (map (λ p. p.object) l.ports))
