-- Transactions whose times rise strictly, and what an assignment requires of them (IEEE 1076-2008, 10.5.2, 14.7.2).
-- `simulate` does not rest on this file; what a store shows under a lock does.
use Rattle.std.specs.Prelude.{ℕ, suc, ◌+◌, ◌≤◌, List, [], ◌∷◌, ⊤, Option, None, Some, map}
use Rattle.sim_standard.specs.declared.delay.Delay.{Delay}
use Rattle.sim_standard.specs.declared.delay.Delay.TheVariants.{Transport, Inertial}
use Rattle.sim_standard.specs.Drivers.{Transaction}

-- The times rise strictly, and none is below this one.
abbrev pub RisesFrom : ℕ → List Transaction → Type 0
RisesFrom time [] = ⊤
RisesFrom time (x ∷ xs) = (time ≤ x.0) × RisesFrom (suc x.0) xs

-- the first pending time
abbrev pub next_of : List Transaction → Option ℕ
next_of [] = None
next_of (x ∷ xs) = Some x.0

-- The rejection limit is at most the first delay (10.5.2.1).
abbrev pub IsWithin : Delay → ℕ → Type 0
IsWithin Transport first = ⊤
IsWithin (Inertial reject) first = reject ≤ first

-- the elements of a waveform as new transactions, each at the present time plus its delay
abbrev pub scheduled : ℕ → List Transaction → List Transaction
scheduled now elements = map (λ (e : Transaction). (now + e.0, e.1)) elements
