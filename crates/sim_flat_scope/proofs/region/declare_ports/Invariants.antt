use Rattle.std.proofs.Common.{◌≡◌, drop}
use Rattle.sim_flat_scope.specs.Scopes.{declaring, means}
use Rattle.sim_flat_scope.specs.Regions.{ports}
use Rattle.sim_flat_scope.proofs.region.declare_ports.Given as goal

abbrev pub invariant-loop-port : goal.invariant-loop-port
invariant-loop-port l =
    declaring l.part (ports (means l.inner l.outer) l.place (drop l.port-index l.ports))
    ≡ declaring l.fn.part (ports (means l.inner l.outer) 0 l.ports)
