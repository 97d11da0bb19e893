use Rattle.std.proofs.Common.{◌≡◌, drop}
use Rattle.sim_flat_expansion.specs.Expanding as spec
use Rattle.sim_flat_expansion.proofs.processes.targets.Given as goal

abbrev pub invariant-loop-target : goal.invariant-loop-target
invariant-loop-target l =
    spec.targets_expanded l.object_nets l.block l.process (drop l.target-index l.targets) l.flat_sources l.drivers
    ≡ spec.targets_expanded l.object_nets l.block l.process l.targets l.fn.flat_sources l.fn.drivers
