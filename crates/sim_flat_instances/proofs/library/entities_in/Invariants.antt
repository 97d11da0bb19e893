use Rattle.std.proofs.Common.{◌≡◌, ◌++◌, drop}
use Rattle.sim_flat_instances.specs.Libraries.{entities_at, entities_in}
use Rattle.sim_flat_instances.proofs.library.entities_in.Given as goal

abbrev pub invariant-loop-unit : goal.invariant-loop-unit
invariant-loop-unit l = entities_at l.entities.items ++ entities_in (drop l.unit-index l.units) ≡ entities_in l.units
