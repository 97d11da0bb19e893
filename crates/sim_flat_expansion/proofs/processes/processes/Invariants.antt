use Rattle.std.proofs.Common.{◌≡◌, drop}
use Rattle.sim_flat_expansion.specs.Expanding as spec
use Rattle.sim_flat_expansion.proofs.processes.processes.Given as goal

abbrev pub invariant-loop-block_process : goal.invariant-loop-block_process
invariant-loop-block_process l =
    spec.processes_expanded l.object_nets l.block (drop l.block_process-index l.block_processes) l.flat_sources l.flat
    ≡ spec.processes_expanded l.object_nets l.block l.block_processes l.fn.flat_sources l.fn.flat
