-- The drivers and variables of the processes of a share, in flat lists (IEEE 1076-2008, 14.7.2).
-- Implementation only: what `simulate` promises does not rest on this file.
use Rattle.std.specs.Prelude.{ℕ, ◌≡◌, List, [], ◌∷◌, Bool, Option, map, length, slice_index_or}
use Rattle.sim_flat_design.specs.declared.held.Held.{Held}
use Rattle.sim_standard.specs.Drivers.{DriverState, next_time, taken}
use Rattle.sim_standard.specs.State.{Owned, driver_at}
use Rattle.sim_containers.specs.RowArray.{joined}
use Rattle.sim_store_share.specs.PendingTimes.{Pending, AreTimes}

-- what each process owns, by its drivers and its variables
abbrev pub owned_lists : List (List DriverState) → List (List Held) → List Owned
owned_lists [] variables = []
owned_lists (ds ∷ drivers) [] = []
owned_lists (ds ∷ drivers) (vs ∷ variables) = record { drivers = ds; variables = vs } ∷ owned_lists drivers variables

-- what the process at a place owns
abbrev pub own_at : List (List DriverState) → List (List Held) → ℕ → Owned
own_at drivers variables p = record { drivers = slice_index_or drivers p []; variables = slice_index_or variables p [] }

-- the first pending time of the driver with a number
abbrev pub time_at : List DriverState → ℕ → Option ℕ
time_at drivers d = next_time (driver_at drivers d ∷ [])

-- what processes own once each driver has taken its transaction of a time, if it has one (14.7.5.3 c)
abbrev pub all_taken : ℕ → List Owned → List Owned
all_taken time owned = map (λ (o : Owned). record o { drivers = map (taken time) o.drivers }) owned

-- The lists of a share: as many of drivers as of variables, the first pending time of each driver that is not stale, and a set of drivers.
pub record IsShare (drivers : List (List DriverState)) (variables : List (List Held)) (times : Pending) (taken : List Bool) : Type 0 where
  pub owned : length drivers ≡ length variables
  pub sized : length times.queue ≡ length (joined drivers)
  pub timed : AreTimes times (time_at (joined drivers))
  pub marked : length taken ≡ length (joined drivers)
