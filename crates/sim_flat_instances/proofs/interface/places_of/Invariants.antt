use Rattle.std.proofs.Common.{◌≡◌, ℕ, List, drop}
use Rattle.std.specs.Option.{option_or}
use Rattle.sim_flat_instances.specs.Interfaces.{is_named, port_place}
use Rattle.sim_flat_instances.specs.Places.{place_of, first_place}
use Rattle.sim_flat_instances.proofs.interface.places_of.Given as goal

abbrev pub invariant-loop-place : goal.invariant-loop-place
invariant-loop-place l =
    (n : List ℕ) → option_or (place_of l.places n) (first_place (is_named n) l.place (drop l.place l.ports)) ≡ port_place l.ports n
