use Rattle.std.proofs.Common.{◌≡◌, drop}
use Rattle.sim_flat_expansion.specs.Counts as spec
use Rattle.sim_flat_expansion.proofs.counts.row.Given as goal

abbrev pub invariant-loop-instance : goal.invariant-loop-instance
invariant-loop-instance l =
    spec.blocks_counted l.table (drop l.instance-index l.instances) l.number ≡ spec.blocks_counted l.table l.instances l.alone
