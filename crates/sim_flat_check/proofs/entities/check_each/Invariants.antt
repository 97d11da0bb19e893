use Rattle.std.proofs.Common.{◌≡◌, drop}
use Rattle.sim_flat_scope.specs.Faults.{earliest}
use Rattle.sim_flat_instances.specs.Libraries.{entities_at}
use Rattle.sim_flat_check.specs.Entities.{each_entity}
use Rattle.sim_flat_check.proofs.entities.check_each.Given as goal

abbrev pub invariant-loop-entity : goal.invariant-loop-entity
invariant-loop-entity l =
    earliest l.first (each_entity (entities_at (drop l.entity-index l.entities))) ≡ earliest l.fn.first (each_entity (entities_at l.entities))
