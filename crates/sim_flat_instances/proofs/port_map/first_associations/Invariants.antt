use Rattle.std.proofs.Common.{◌≡◌, ℕ, drop}
use Rattle.std.specs.Option.{option_or}
use Rattle.sim_flat_instances.specs.Places.{place_of_number}
use Rattle.sim_flat_instances.specs.PortMaps.{first_of_port}
use Rattle.sim_flat_instances.proofs.port_map.first_associations.Given as goal

abbrev pub invariant-loop-at : goal.invariant-loop-at
invariant-loop-at l =
    (p : ℕ) → option_or (place_of_number l.firsts p) (first_of_port l.ports p l.at (drop l.at l.associations)) ≡ first_of_port l.ports p 0 l.associations
