-- Drivers, their transactions, and the time of the next cycle (IEEE 1076-2008, 14.7.2, 14.7.5.1).
use Rattle.std.specs.Prelude.{ℕ, ◌==◌, min, List, [], ◌∷◌, Option, map, flat_map, slice_index_or, if◌then◌else◌}
use Rattle.std.specs.List.{reduce}
use Rattle.sim_logic.specs.declared.logic.Logic.{Logic}
use Rattle.sim_logic.specs.declared.logic.Logic.TheVariants.{U}

-- a transaction: its time and its value (14.7.2)
abbrev pub Transaction : Type 0
Transaction = ℕ × Logic

-- the transaction at a place
abbrev pub transaction_at : List Transaction → ℕ → Transaction
transaction_at transactions place = slice_index_or transactions place (0, U)

-- a driver's projected output waveform: its current value and its pending transactions, the earliest first (14.7.2)
pub record DriverState : Type 0 where
  pub value : Logic
  pub pending : List Transaction

-- a driver after its first transaction has become its value, if it is of this time: it is active then (14.7.2)
abbrev pub taken : ℕ → DriverState → DriverState
taken time d = go d.pending
  where
    go : List Transaction → DriverState
    go [] = d
    go (x ∷ xs) = if x.0 == time then record { value = x.1; pending = xs } else d

-- the time of the next cycle: the earliest of all pending times; none if nothing is pending, where the standard has TIME'HIGH (14.7.5.1)
unfoldable pub next_time : List DriverState → Option ℕ
next_time drivers = reduce min (flat_map (λ (d : DriverState). map (λ (x : Transaction). x.0) d.pending) drivers)
