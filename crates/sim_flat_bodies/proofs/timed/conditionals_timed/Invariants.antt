use Rattle.std.proofs.Common.{◌≡◌, drop}
use Rattle.std.specs.List.{list_all}
use Rattle.sim_flat_bodies.specs.Timed as spec
use Rattle.sim_flat_bodies.proofs.timed.conditionals_timed.Given as goal

abbrev pub invariant-loop-each : goal.invariant-loop-each
invariant-loop-each l = list_all (spec.conditional_timed l.delay) (drop l.each-index l.list) ≡ list_all (spec.conditional_timed l.delay) l.list
