-- The entries of the heap: a time and a driver each. An entry is stale if the driver has another time by now.
-- Implementation only: what `simulate` promises does not rest on this file.
use Rattle.std.specs.Prelude.{ℕ, ◌≡◌, ◌≢◌, ◌≤◌, ◌⊎◌, Bool, true, List, [], ◌∷◌, length, ⊤, Option, Some}
use Rattle.std.specs.BinaryHeap.{IsHeap}
use Rattle.std.specs.List.{Contains}
use Rattle.std.specs.Ordering.{nat_cmp, ordering_then}
use Rattle.std.specs.declared.cmp.Ordering.{Ordering}
use Rattle.std.specs.declared.cmp.Reverse.{Reverse}
use Rattle.sim_containers.specs.Numbers.{is_in}
use Rattle.sim_containers.specs.Times.{cleared, is_at, those_at, time_of}

abbrev pub Entry : Type 0
Entry = Reverse (ℕ × ℕ)

abbrev pub entry : ℕ → ℕ → Entry
entry time driver = record { 0 = (time, driver) }

-- the order of the heap: the entry with the least time is the greatest, and among these the one with the least driver
abbrev pub entry_cmp : Entry → Entry → Ordering
entry_cmp x y = ordering_then (nat_cmp y.0.0 x.0.0) (nat_cmp y.0.1 x.0.1)

-- whether the driver still has this time
abbrev pub is_live : List (Option ℕ) → Entry → Bool
is_live times e = is_at e.0.0 (time_of times e.0.1)

-- The heap has an entry for each driver with a time other than `now` and `later`.
abbrev pub StandsBut : ℕ → ℕ → List (Option ℕ) → List Entry → Type 0
StandsBut now later times items = (d t : ℕ) → time_of times d ≡ Some t → t ≢ now → t ≢ later → Contains items (entry t d)

-- for each driver whether it has the time `later`; none, if that is `now`
abbrev pub those_later : ℕ → ℕ → List (Option ℕ) → List Bool
those_later now later times = those_at later (cleared now times)

-- The first entry is not stale.
abbrev pub HasLiveTop : List (Option ℕ) → List Entry → Type 0
HasLiveTop times [] = ⊤
HasLiveTop times (e ∷ es) = is_live times e ≡ true

-- No time is before this one.
abbrev pub NoneBefore : ℕ → List (Option ℕ) → Type 0
NoneBefore time times = (d t : ℕ) → time_of times d ≡ Some t → time ≤ t

-- Two sets have the drivers at two times, and the heap has entries for the others.
pub record IsQueue (times : List (Option ℕ)) (now later : ℕ) (front laters : List Bool) (items : List Entry) : Type 0 where
  pub front_is : front ≡ those_at now times
  pub later_is : laters ≡ those_later now later times
  pub order : IsHeap entry_cmp items
  pub stands : StandsBut now later times items
  pub live : HasLiveTop times items

-- A walk takes the drivers of one time out of the heap: those taken have that time, and the heap has entries for the others, except those at `now` and `later`.
pub record IsTaking (now later time : ℕ) (times : List (Option ℕ)) (taken : List Bool) (items : List Entry) : Type 0 where
  pub sized : length taken ≡ length times
  pub due : (d : ℕ) → is_in taken d ≡ true → time_of times d ≡ Some time
  pub stands : (d t : ℕ) → time_of times d ≡ Some t → t ≢ now → t ≢ later → ((t ≡ time) × (is_in taken d ≡ true)) ⊎ Contains items (entry t d)
