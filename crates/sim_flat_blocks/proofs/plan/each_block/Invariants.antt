use Rattle.std.proofs.Common.{◌≡◌, ◌++◌, drop, map}
use Rattle.std.specs.List.{All}
use Rattle.sim_flat_blocks.specs.Blocks.{IsBlock}
use Rattle.sim_flat_instances.specs.Libraries.{bodies_at}
use Rattle.sim_flat_blocks.specs.Plans.{block_of, blocks_of}
use Rattle.sim_flat_blocks.proofs.plan.each_block.Given as goal

abbrev pub invariant-loop-each : goal.invariant-loop-each
invariant-loop-each l =
    (l.found.items ++ map (block_of l.library) (bodies_at (drop l.each-index l.architectures))
    ≡ map (block_of l.library) (bodies_at l.architectures))
    × All (IsBlock (blocks_of l.library)) l.found.items
