use Rattle.std.proofs.Common.{◌≡◌, drop}
use Rattle.sim_flat_expansion.specs.Depth as spec
use Rattle.sim_flat_expansion.proofs.depth.any.Given as goal

abbrev pub invariant-loop-instance : goal.invariant-loop-instance
invariant-loop-instance l = spec.any_at l.table (drop l.instance-index l.instances) ≡ spec.any_at l.table l.instances
