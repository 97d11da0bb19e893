use Rattle.std.proofs.Common.{◌≡◌, ◌++◌, drop}
use Rattle.sim_flat_design.specs.Bodies.{waveform_objects}
use Rattle.sim_flat_blocks.proofs.reads.add_elements.Given as goal

abbrev pub invariant-loop-each : goal.invariant-loop-each
invariant-loop-each l =
    l.found.items ++ waveform_objects (drop l.each-index l.list) ≡ l.fn.found.items ++ waveform_objects l.list
