-- Drivers after they have taken their transactions (IEEE 1076-2008, 14.7.2).
-- Implementation only: what `simulate` promises does not rest on this file.
use Rattle.std.specs.Prelude.{ℕ, ◌≡◌, ◌+◌, ◌<◌, ◌≤◌, ◌⊎◌, Bool, List, None, Some, false, true, length}
use Rattle.sim_logic.specs.declared.logic.Logic.{Logic}
use Rattle.sim_standard.specs.Drivers.{DriverState, taken}
use Rattle.sim_standard.specs.State.{Owned, all_drivers, driver_at}
use Rattle.sim_containers.specs.Numbers.{is_in}
use Rattle.sim_containers.specs.Times.{time_of}
use Rattle.sim_store_nets.specs.Lists.{Lists, net_from}
use Rattle.sim_store_nets.specs.Nets.{value_at}
use Rattle.sim_store_share.specs.PendingTimes.{Pending}
use Rattle.sim_store_share.specs.Shares.{all_taken, time_at}

-- No driver has a transaction before a time.
abbrev pub IsNoneBefore : ℕ → List DriverState → Type 0
IsNoneBefore time drivers = (d t : ℕ) → time_at drivers d ≡ Some t → time ≤ t

-- Drivers that are not in this set have no transaction of a time, and their times are known, unless they are stale.
abbrev pub AreIdle : ℕ → List Bool → Pending → List DriverState → Type 0
AreIdle time due p drivers = (d : ℕ) → is_in due d ≡ false
    → (taken time (driver_at drivers d) ≡ driver_at drivers d) × (is_in p.stale d ≡ false → time_of p.queue d ≡ time_at drivers d)

-- The queue has no time of the drivers in this set that are not stale.
abbrev pub AreCleared : List Bool → Pending → Type 0
AreCleared due p = (d : ℕ) → is_in due d ≡ true → is_in p.stale d ≡ false → time_of p.queue d ≡ None

-- The values of these drivers, the first of which has this number, are noted.
pub record AreListed (first : ℕ) (drivers : List DriverState) (l : Lists) : Type 0 where
  pub within : first + length drivers ≤ length l.driving
  pub here : (d : ℕ) → d < length drivers → value_at l.driving (first + d) ≡ (driver_at drivers d).value

-- Only values of these drivers have been noted since, and a net that is not gathered is resolved to the value that it had.
pub record AreNoted (first : ℕ) (drivers : List DriverState) (old new : Lists) : Type 0 where
  pub sources : new.sources ≡ old.sources
  pub touched : new.touched ≡ old.touched
  pub sized : length new.driving ≡ length old.driving
  pub room : length new.gathered ≡ length old.gathered
  pub listed : AreListed first drivers new
  pub others : (k : ℕ) → (k < first) ⊎ (first + length drivers ≤ k) → value_at new.driving k ≡ value_at old.driving k
  pub still : (n : ℕ) → n < length old.sources → is_in new.gathered n ≡ false → (is_in old.gathered n ≡ false) × (net_from new n ≡ net_from old n)

-- The driver with a number, the only one with a transaction of a time, has taken it, and has this value.
pub record IsOnlyTaken (time number : ℕ) (value : Logic) (old new : List Owned) : Type 0 where
  pub within : number < length (all_drivers old)
  pub taken : new ≡ all_taken time old
  pub value_is : value ≡ (driver_at (all_drivers new) number).value
  pub others : (d : ℕ) → (d ≡ number → ⊥) → (driver_at (all_drivers new) d).value ≡ (driver_at (all_drivers old) d).value
