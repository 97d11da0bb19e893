use Rattle.std.proofs.Common.{◌≡◌, ◌++◌, drop}
use Rattle.sim_flat_expansion.specs.Counts as spec
use Rattle.sim_flat_expansion.proofs.counts.next.Given as goal

abbrev pub invariant-loop-at : goal.invariant-loop-at
invariant-loop-at l = l.rows ++ spec.level_counted l.table l.alone l.at (drop l.at l.blocks) ≡ spec.level_counted l.table l.alone 0 l.blocks
