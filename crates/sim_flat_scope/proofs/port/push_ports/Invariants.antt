use Rattle.std.proofs.Common.{◌≡◌, ◌++◌, drop}
use Rattle.sim_flat_scope.specs.Ports.{ports_named}
use Rattle.sim_flat_scope.proofs.port.push_ports.Given as goal

abbrev pub invariant-loop-name : goal.invariant-loop-name
invariant-loop-name l =
    l.ports.items ++ ports_named l.declaration (drop l.name-index l.name-items) ≡ l.fn.ports.items ++ ports_named l.declaration l.declaration.names
