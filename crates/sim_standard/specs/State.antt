-- The state of a design (IEEE 1076-2008, 14.7).
use Rattle.std.specs.Prelude.{ℕ, List, [], false, map, flat_map, slice_index_or}
use Rattle.sim_logic.specs.declared.logic.Logic.{Logic}
use Rattle.sim_logic.specs.declared.logic.Logic.TheVariants.{U}
use Rattle.sim_flat_design.specs.declared.held.Held.{Held}
use Rattle.sim_standard.specs.Drivers.{DriverState}
use Rattle.sim_standard.specs.declared.net_view.NetView.{NetView}

-- What a process owns: its drivers (14.7.2) and its variables, each by place.
pub record Owned : Type 0 where
  pub drivers : List DriverState
  pub variables : List Held

-- A state: the time and the delta number of the last cycle, each net as that cycle left it, by number, what each process owns, by number, and the postponed
-- processes that have resumed and have not been executed since, rising (14.7.5.3 h). The delta number is our own.
pub record State : Type 0 where
  pub time : ℕ
  pub delta : ℕ
  pub nets : List NetView
  pub owned : List Owned
  pub waiting : List ℕ

-- ---- its parts, by number; what stands beyond the ends of the lists is never read in the state of a design

abbrev pub driver_at : List DriverState → ℕ → DriverState
driver_at drivers n = slice_index_or drivers n (record { value = U; pending = [] })

abbrev pub net_at : List NetView → ℕ → NetView
net_at nets n = slice_index_or nets n (record { value = U; event = false; before = U })

abbrev pub owned_at : List Owned → ℕ → Owned
owned_at owned n = slice_index_or owned n (record { drivers = []; variables = [] })

-- all drivers, by number: those of a process are adjacent
abbrev pub all_drivers : List Owned → List DriverState
all_drivers owned = flat_map (λ (o : Owned). o.drivers) owned

-- the current values of drivers
abbrev pub driver_values : List DriverState → List Logic
driver_values drivers = map (λ (d : DriverState). d.value) drivers
