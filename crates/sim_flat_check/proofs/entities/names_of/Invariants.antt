use Rattle.std.proofs.Common.{◌≡◌, ◌++◌, drop}
use Rattle.sim_flat_instances.specs.Libraries.{entities_at}
use Rattle.sim_flat_check.specs.Entities.{entity_names}
use Rattle.sim_flat_check.proofs.entities.names_of.Given as goal

abbrev pub invariant-loop-entity : goal.invariant-loop-entity
invariant-loop-entity l =
    l.names ++ entity_names (entities_at (drop l.entity-index l.entities)) ≡ entity_names (entities_at l.entities)
