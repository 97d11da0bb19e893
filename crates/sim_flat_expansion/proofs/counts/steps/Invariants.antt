use Rattle.std.proofs.Common.{◌≡◌, drop}
use Rattle.sim_flat_expansion.specs.Counts as spec
use Rattle.sim_flat_expansion.proofs.counts.steps.Given as goal

abbrev pub invariant-loop-instance : goal.invariant-loop-instance
invariant-loop-instance l =
    spec.steps_counted l.kind (drop l.instance-index l.instances) l.number ≡ spec.steps_counted l.kind l.instances l.own
