use Rattle.std.proofs.Common.{◌≡◌, drop}
use Rattle.sim_flat_graph.specs.Sources as spec
use Rattle.sim_flat_graph.proofs.sources.note_ports.Given as goal

abbrev pub invariant-loop-at : goal.invariant-loop-at
invariant-loop-at l =
    spec.all_noted l.counts.items (spec.targets_of_ports l.links l.at (drop l.at l.ports))
    ≡ spec.all_noted l.fn.counts.items (spec.targets_of_ports l.links 0 l.ports)
