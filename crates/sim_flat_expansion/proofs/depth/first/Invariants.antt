use Rattle.std.proofs.Common.{◌≡◌, ◌++◌, drop}
use Rattle.sim_flat_expansion.specs.Depth as spec
use Rattle.sim_flat_expansion.proofs.depth.first.Given as goal

abbrev pub invariant-loop-block : goal.invariant-loop-block
invariant-loop-block l = l.table ++ spec.first_table (drop l._block-index l.blocks) ≡ spec.first_table l.blocks
