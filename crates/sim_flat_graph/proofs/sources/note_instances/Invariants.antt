use Rattle.std.proofs.Common.{◌≡◌, drop}
use Rattle.sim_flat_graph.specs.Sources as spec
use Rattle.sim_flat_graph.proofs.sources.note_instances.Given as goal

abbrev pub invariant-loop-instance : goal.invariant-loop-instance
invariant-loop-instance l =
    spec.all_noted l.counts.items (spec.targets_of_instances l.blocks (drop l.instance-index l.instances))
    ≡ spec.all_noted l.fn.counts.items (spec.targets_of_instances l.blocks l.instances)
