use Rattle.std.proofs.Common.{◌≡◌, drop}
use Rattle.sim_flat_bodies.specs.Timed as spec
use Rattle.sim_flat_bodies.proofs.timed.rises_from.Given as goal

abbrev pub invariant-loop-element : goal.invariant-loop-element
invariant-loop-element l = spec.rises_from l.before (drop l.element-index l.elements) ≡ spec.rises_from l.fn.time l.elements
