use Rattle.std.proofs.Common.{◌≡◌, ◌++◌, drop}
use Rattle.sim_flat_scope.specs.DeclaredNames as spec
use Rattle.sim_flat_scope.proofs.names.Names.push_ports.Given as goal

abbrev pub invariant-loop-port : goal.invariant-loop-port
invariant-loop-port l = l.self ++ spec.port_names (drop l.port-index l.ports) ≡ l.fn.self ++ spec.port_names l.ports
