use Rattle.std.proofs.Common.{◌≡◌, ◌++◌, drop}
use Rattle.sim_flat_expansion.specs.Depth as spec
use Rattle.sim_flat_expansion.proofs.depth.next.Given as goal

abbrev pub invariant-loop-block : goal.invariant-loop-block
invariant-loop-block l = l.rows ++ spec.next_table l.table (drop l.block-index l.blocks) ≡ spec.next_table l.table l.blocks
