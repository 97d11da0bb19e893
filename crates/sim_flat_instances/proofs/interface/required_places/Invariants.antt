use Rattle.std.proofs.Common.{◌≡◌, ◌++◌, drop}
use Rattle.sim_flat_instances.specs.PortMaps.{required_from}
use Rattle.sim_flat_instances.proofs.interface.required_places.Given as goal

abbrev pub invariant-loop-place : goal.invariant-loop-place
invariant-loop-place l = l.places.items ++ required_from l.place (drop l.place l.ports) ≡ required_from 0 l.ports
