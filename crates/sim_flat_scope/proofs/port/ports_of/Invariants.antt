use Rattle.std.proofs.Common.{◌≡◌, ◌++◌, drop}
use Rattle.sim_flat_scope.specs.Ports.{ports_of}
use Rattle.sim_flat_scope.proofs.port.ports_of.Given as goal

abbrev pub invariant-loop-declaration : goal.invariant-loop-declaration
invariant-loop-declaration l = l.ports.items ++ ports_of (drop l.declaration-index l.declarations) ≡ ports_of l.declarations
