-- The time of the next cycle as a relation (IEEE 1076-2008, 14.7.5.1).
-- Implementation only: what `simulate` promises does not rest on this file.
use Rattle.std.specs.Prelude.{ℕ, ◌≡◌, ◌≤◌, List, [], Option, MatchOption, map, flat_map}
use Rattle.std.specs.List.{All, Contains}
use Rattle.sim_standard.specs.Drivers.{Transaction, DriverState}

-- the times of all pending transactions
abbrev pub pending_times : List DriverState → List ℕ
pending_times drivers = flat_map (λ (d : DriverState). map (λ (x : Transaction). x.0) d.pending) drivers

-- The time of the next cycle: the earliest of all pending times; none if nothing is pending, where the standard has TIME'HIGH.
abbrev pub IsNext : List DriverState → Option ℕ → Type 0
IsNext drivers next =
    MatchOption next (pending_times drivers ≡ []) (λ time. Contains (pending_times drivers) time × All (λ (t : ℕ). time ≤ t) (pending_times drivers))
