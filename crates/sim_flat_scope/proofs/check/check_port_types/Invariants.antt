use Rattle.std.proofs.Common.{◌≡◌, drop}
use Rattle.sim_flat_scope.specs.Faults.{earliest}
use Rattle.sim_flat_scope.specs.Scopes.{means}
use Rattle.sim_flat_scope.specs.DeclarationFaults.{port_types}
use Rattle.sim_flat_scope.proofs.check.check_port_types.Given as goal

abbrev pub invariant-loop-port : goal.invariant-loop-port
invariant-loop-port l =
    earliest l.first (port_types (means l.inner l.outer) (drop l.port-index l.ports))
    ≡ earliest l.fn.first (port_types (means l.inner l.outer) l.ports)
