use Rattle.std.proofs.Common.{◌≡◌, ◌++◌, drop}
use Rattle.sim_flat_instances.specs.Libraries.{entities_at, interfaces}
use Rattle.sim_flat_instances.proofs.library.interfaces.Given as goal

abbrev pub invariant-loop-entity : goal.invariant-loop-entity
invariant-loop-entity l = l.interfaces.items ++ interfaces (entities_at (drop l.entity-index l.entities)) ≡ interfaces (entities_at l.entities)
