use Rattle.std.proofs.Common.{◌≡◌, drop}
use Rattle.sim_flat_blocks.specs.Blocks.{targets_of}
use Rattle.sim_flat_graph.specs.Sources as spec
use Rattle.sim_flat_graph.proofs.sources.note_drivers.Given as goal

abbrev pub invariant-loop-process : goal.invariant-loop-process
invariant-loop-process l =
    spec.all_noted l.counts.items (targets_of (drop l.process-index l.processes)) ≡ spec.all_noted l.fn.counts.items (targets_of l.processes)
