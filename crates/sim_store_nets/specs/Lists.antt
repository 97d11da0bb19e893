-- What an update looks at beside drivers and nets (IEEE 1076-2008, 14.7.3).
-- Implementation only: what `simulate` promises does not rest on this file.
use Rattle.std.specs.Prelude.{ℕ, ◌≡◌, ◌<◌, List, [], Bool, false, length, map, slice_index_or, slice_set}
use Rattle.sim_logic.specs.declared.logic.Logic.{Logic}
use Rattle.sim_flat_design.specs.declared.design.Source.{Source}
use Rattle.sim_containers.specs.Numbers.{is_in}
use Rattle.sim_store_nets.specs.Tallies.{TallyLists}
use Rattle.sim_store_nets.specs.Nets.{AreFanOut, AreTallied, row_from, value_at}

-- the sources of each net, the value of each driver, the nets that may have an event, and those that are gathered as such
pub record Lists : Type 0 where
  pub sources : List (List Source)
  pub driving : List Logic
  pub touched : List Bool
  pub gathered : List Bool

-- the value of each net, and its value before the cycle
pub record NetValues : Type 0 where
  pub present : List Logic
  pub before : List Logic

-- the value of the net with a number, resolved from its sources
abbrev pub net_from : Lists → ℕ → Logic
net_from l n = row_from l.driving (slice_index_or l.sources n [])

-- The nets of each driver and the values kept of many sources are right, and there is a place for each net.
pub record AreListsOf (l : Lists) (fan_out : List (List ℕ)) (tallies : TallyLists) : Type 0 where
  pub fan_out_count : length fan_out ≡ length l.driving
  pub fanned : AreFanOut l.sources fan_out
  pub tallied : AreTallied l.sources l.driving tallies
  pub sized : length l.touched ≡ length l.sources
  pub room : length l.gathered ≡ length l.sources

-- A driver has this value, among others that are noted. A net that is not gathered is resolved to the value that it had.
pub record IsNoted (number : ℕ) (value : Logic) (old new : Lists) : Type 0 where
  pub driving : new.driving ≡ slice_set old.driving number value
  pub sources : new.sources ≡ old.sources
  pub touched : new.touched ≡ old.touched
  pub sized : length new.gathered ≡ length old.gathered
  pub still : (n : ℕ) → n < length old.sources → is_in new.gathered n ≡ false → (is_in old.gathered n ≡ false) × (net_from new n ≡ net_from old n)

-- The same of the only driver whose value is noted, with the nets that are touched.
pub record IsNotedAlone (number : ℕ) (value : Logic) (old new : Lists) : Type 0 where
  pub driving : new.driving ≡ slice_set old.driving number value
  pub sources : new.sources ≡ old.sources
  pub sized : length new.touched ≡ length old.touched
  pub still : (n : ℕ) → n < length old.sources → is_in new.touched n ≡ false → net_from new n ≡ net_from old n

-- A cycle's nets before they are resolved: none has an event yet, and those that are not touched have the values of their sources.
pub record AreUnresolved (l : Lists) (v : NetValues) : Type 0 where
  pub sources : length v.present ≡ length l.sources
  pub sized : length l.touched ≡ length l.sources
  pub none : v.before ≡ v.present
  pub others : (n : ℕ) → n < length v.present → is_in l.touched n ≡ false → value_at v.present n ≡ net_from l n

-- Before a net is resolved, it has no event.
pub record IsUnresolved (l : Lists) (v : NetValues) (net : ℕ) : Type 0 where
  pub at : net < length v.present
  pub sources : length v.present ≡ length l.sources
  pub none : value_at v.present net ≡ value_at v.before net

-- each net with the value of its sources
abbrev pub resolved_by : Lists → NetValues → NetValues
resolved_by l v = record { present = map (row_from l.driving) l.sources; before = v.before }
