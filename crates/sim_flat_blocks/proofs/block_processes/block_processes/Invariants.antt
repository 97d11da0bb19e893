use Rattle.std.proofs.Common.{◌≡◌, ◌++◌, drop}
use Rattle.std.specs.List.{All}
use Rattle.sim_flat_blocks.specs.BlockProcesses.{FitsBlocks}
use Rattle.sim_flat_blocks.specs.Plans.{block_processes_of}
use Rattle.sim_flat_blocks.proofs.block_processes.block_processes.Given as goal

abbrev pub invariant-loop-each : goal.invariant-loop-each
invariant-loop-each l =
    (l.found.items ++ block_processes_of l.region l.objects (drop l.each-index l.statements) ≡ block_processes_of l.region l.objects l.statements)
    × All (FitsBlocks l.objects) l.found.items
