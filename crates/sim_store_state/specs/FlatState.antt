-- The state of a design in flat lists and shares.
-- `simulate` does not rest on this file; what a store shows under a lock does.
use Rattle.std.specs.Prelude.{ℕ, ◌≡◌, ◌+◌, ◌<◌, ◌≤◌, List, length, map, slice_index_or}
use Rattle.sim_flat_design.specs.declared.design.Source.{Source}
use Rattle.sim_flat_design.specs.Designs.{Design}
use Rattle.sim_standard.specs.declared.net_view.NetView.{NetView}
use Rattle.sim_standard.specs.State.{State, Owned, all_drivers, driver_values}
use Rattle.sim_containers.specs.RowArray.{joined}
use Rattle.sim_store_nets.specs.Lists.{Lists, NetValues}
use Rattle.sim_store_nets.specs.Nets.{AreTouched, row_from, sources_of, views_of}

-- what is held of a state of a design: the sources of its nets, and the state without its time, delta number and waiting processes
pub record FlatState : Type 0 where
  pub sources : List (List Source)
  pub nets : List NetView
  pub owned : List Owned

abbrev pub flat_state_of : Design → State → FlatState
flat_state_of design s = record { sources = sources_of design.nets; nets = s.nets; owned = s.owned }

-- the state that values of nets, shares and lists hold
abbrev pub held : NetValues → List (List Owned) → Lists → FlatState
held values shares lists = record { sources = lists.sources; nets = views_of values.present values.before; owned = joined shares }

-- the length of each list
abbrev pub counts : {A : Type 0} → List (List A) → List ℕ
counts xss = map length xss

-- There are shares of these numbers of processes: each but the last has as many as the first, and the last at most as many.
pub record AreShares (sizes : List ℕ) : Type 0 where
  pub some : 0 < length sizes
  pub wide : 1 < length sizes → 0 < slice_index_or sizes 0 0
  pub full : (p : ℕ) → p + 1 < length sizes → slice_index_or sizes p 0 ≡ slice_index_or sizes 0 0
  pub most : (p : ℕ) → p < length sizes → slice_index_or sizes p 0 ≤ slice_index_or sizes 0 0

-- These hold a state: each net has the value of its sources, and what an update looks at is right.
pub record IsConsistent (values : NetValues) (shares : List (List Owned)) (lists : Lists) : Type 0 where
  pub shared : AreShares (counts shares)
  pub nets : length values.before ≡ length values.present
  pub valued : lists.driving ≡ driver_values (all_drivers (joined shares))
  pub resolving : values.present ≡ map (row_from lists.driving) lists.sources
  pub touching : AreTouched values.present values.before lists.touched
