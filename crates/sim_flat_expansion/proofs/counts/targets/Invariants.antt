use Rattle.std.proofs.Common.{◌≡◌, drop}
use Rattle.sim_flat_expansion.specs.Counts as spec
use Rattle.sim_flat_expansion.proofs.counts.targets.Given as goal

abbrev pub invariant-loop-block_process : goal.invariant-loop-block_process
invariant-loop-block_process l = spec.targets_counted (drop l.block_process-index l.block_processes) l.number ≡ spec.targets_counted l.block_processes 0
