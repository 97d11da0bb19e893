use Rattle.std.proofs.Common.{◌≡◌, ◌++◌, drop}
use Rattle.sim_flat_scope.specs.Scopes.{means}
use Rattle.sim_flat_blocks.specs.BlockProcesses.{named_objects}
use Rattle.sim_flat_blocks.proofs.block_process.named_objects.Given as goal

abbrev pub invariant-loop-name : goal.invariant-loop-name
invariant-loop-name l =
    l.found.items ++ named_objects (means l.names.process.now l.names.architecture.now) (drop l.name-index l.list)
    ≡ named_objects (means l.names.process.now l.names.architecture.now) l.list
