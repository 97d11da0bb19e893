-- What a signal assignment leaves pending (IEEE 1076-2008, 10.5.2.2).
use Rattle.std.specs.Prelude.{ℕ, suc, ◌+◌, ◌-◌, ◌<◌, ◌≤◌, ◌≡◌, nat_lt, Bool, ◌&&◌, ◌||◌, if◌then◌else◌, List, [], ◌∷◌, ◌++◌, length, map, filter, drop}
use Rattle.sim_logic.specs.declared.logic.Logic.{Logic}
use Rattle.sim_logic.specs.Logic.{is_same}
use Rattle.sim_standard.specs.declared.delay.Delay.{Delay}
use Rattle.sim_standard.specs.declared.delay.Delay.TheVariants.{Transport, Inertial}
use Rattle.sim_standard.specs.Drivers.{Transaction, transaction_at}

-- ---- every assignment, a): the old transactions at or after the first new one are deleted; these stay

-- the transactions before a time
abbrev pub before : ℕ → List Transaction → List Transaction
before time old = filter (λ (x : Transaction). nat_lt x.0 time) old

-- ---- an inertial delay, a) to c): which transactions are marked

-- The marked places among the old transactions followed by the new ones: the least set that has a) each new one, b) each old one earlier than the limit, which
-- is the time of the first new one minus the rejection limit, and c) each old one immediately before a marked one of the same value.
pub data Marked (limit : ℕ) (old new : List Transaction) : ℕ → Type 0 where
  Is_new : (i : ℕ) → length old ≤ i → i < length old + length new → Marked limit old new i
  Is_early : (i : ℕ) → i < length old → (transaction_at old i).0 < limit → Marked limit old new i
  Is_before : (i : ℕ) → i < length old
      → (transaction_at (old ++ new) i).1 ≡ (transaction_at (old ++ new) (suc i)).1
      → Marked limit old new (suc i) → Marked limit old new i

-- the same as a function, b) and c): whether the old transaction x is marked, if the old ones xs and then a new one of this value follow it
abbrev pub is_marked : ℕ → Logic → Transaction → List Transaction → Bool
is_marked limit value x [] = nat_lt x.0 limit || is_same x.1 value
is_marked limit value x (y ∷ ys) = nat_lt x.0 limit || (is_same x.1 y.1 && is_marked limit value y ys)

-- ---- an inertial delay, d) and e): the current value stays, and what is not marked is deleted

-- the old transactions that are marked
abbrev pub marked_of : ℕ → Logic → List Transaction → List Transaction
marked_of limit value [] = []
marked_of limit value (x ∷ xs) =
    if is_marked limit value x xs then x ∷ marked_of limit value xs else marked_of limit value xs

-- ---- the whole edit

-- what a delay mechanism keeps of the old transactions before the first new one: an inertial delay those that are marked
abbrev pub kept_of : Delay → Transaction → List Transaction → List Transaction
kept_of Transport first old = old
kept_of (Inertial reject) first old = marked_of (first.0 - reject) first.1 old

-- what is pending after an assignment at this time: what is kept, followed by b) the new transactions, each at this time plus the delay of its element
abbrev pub edited : List Transaction → ℕ → Delay → List Transaction → List Transaction
edited old now delay elements =
    let new = map (λ (e : Transaction). (now + e.0, e.1)) elements in
    let first = transaction_at new 0 in
    kept_of delay first (before first.0 old) ++ new

-- ---- by places, for the laws that the function marks the least set

-- whether the old transaction at a place is marked, if the first new one has this value
abbrev pub is_marked_at : ℕ → List Transaction → Logic → ℕ → Bool
is_marked_at limit old value i = is_marked limit value (transaction_at old i) (drop (suc i) old)

-- the transactions at the places that pass a test, the first of them at this place
abbrev pub at_places : (ℕ → Bool) → ℕ → List Transaction → List Transaction
at_places test place [] = []
at_places test place (x ∷ xs) = if test place then x ∷ at_places test (suc place) xs else at_places test (suc place) xs
