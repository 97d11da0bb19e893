use Rattle.std.proofs.Common.{◌≡◌, drop}
use Rattle.std.specs.List.{list_any}
use Rattle.sim_flat_instances.specs.PortMaps.{is_missed}
use Rattle.sim_flat_instances.proofs.port_map.PortMap.misses_one.Given as goal

abbrev pub invariant-loop-place : goal.invariant-loop-place
invariant-loop-place l = list_any (is_missed l.self) (drop l.place-index l.places) ≡ list_any (is_missed l.self) l.places
