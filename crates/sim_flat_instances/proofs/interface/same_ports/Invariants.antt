use Rattle.std.proofs.Common.{◌≡◌, drop}
use Rattle.sim_flat_instances.specs.Interfaces.{are_alike}
use Rattle.sim_flat_instances.proofs.interface.same_ports.Given as goal

abbrev pub invariant-loop-place : goal.invariant-loop-place
invariant-loop-place l = are_alike (drop l.place l.first) (drop l.place l.second) ≡ are_alike l.first l.second
