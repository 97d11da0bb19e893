use Rattle.std.proofs.Common.{◌≡◌, drop}
use Rattle.sim_flat_scope.specs.Faults.{earliest}
use Rattle.sim_flat_scope.specs.Scopes.{means}
use Rattle.sim_flat_instances.specs.PortMaps.{associations_faults}
use Rattle.sim_flat_instances.proofs.port_map.PortMap.check_associations.Given as goal

abbrev pub invariant-loop-at : goal.invariant-loop-at
invariant-loop-at l =
    earliest l.first (associations_faults (means l.inner l.outer) l.self l.at (drop l.at l.association-items))
    ≡ earliest l.fn.first (associations_faults (means l.inner l.outer) l.self 0 l.self.associations)
