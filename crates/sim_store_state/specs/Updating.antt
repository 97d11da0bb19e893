-- The lists after an update (IEEE 1076-2008, 14.7.3, 14.7.5.3).
-- Implementation only: what `simulate` promises does not rest on this file.
use Rattle.std.specs.Prelude.{ℕ, ◌≡◌, ◌<◌, List, false, length}
use Rattle.sim_standard.specs.Drivers.{DriverState}
use Rattle.sim_standard.specs.State.{driver_values}
use Rattle.sim_containers.specs.Numbers.{is_in}
use Rattle.sim_store_nets.specs.Lists.{Lists, net_from}

-- The values of all drivers have been noted, and a net that is not gathered is resolved to the value that it had.
pub record AreNotedAll (drivers : List DriverState) (old new : Lists) : Type 0 where
  pub driving : new.driving ≡ driver_values drivers
  pub sources : new.sources ≡ old.sources
  pub room : length new.gathered ≡ length old.gathered
  pub still : (n : ℕ) → n < length old.sources → is_in new.gathered n ≡ false → net_from new n ≡ net_from old n

-- The same, where the touched nets are those that were gathered.
pub record IsUpdate (drivers : List DriverState) (old new : Lists) : Type 0 where
  pub driving : new.driving ≡ driver_values drivers
  pub sources : new.sources ≡ old.sources
  pub sized : length new.touched ≡ length old.touched
  pub still : (n : ℕ) → n < length old.sources → is_in new.touched n ≡ false → net_from new n ≡ net_from old n
