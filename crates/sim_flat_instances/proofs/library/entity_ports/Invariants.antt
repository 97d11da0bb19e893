use Rattle.std.proofs.Common.{◌≡◌, ◌++◌, drop}
use Rattle.sim_flat_instances.specs.Libraries.{declared_ports, entities_at}
use Rattle.sim_flat_instances.proofs.library.entity_ports.Given as goal

abbrev pub invariant-loop-entity : goal.invariant-loop-entity
invariant-loop-entity l = l.ports.items ++ declared_ports (entities_at (drop l.entity-index l.entities)) ≡ declared_ports (entities_at l.entities)
