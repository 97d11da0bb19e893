-- The members of a list, item by item.
use Rattle.std.proofs.Common.{◌≡◌, ℕ, zero, suc, ◌<◌, ◌≤◌, List, [], ◌∷◌, Bool, true, false, length, get_or, ◌⊎◌, inl, inr}
use Rattle.std.proofs.Common.{refl, arith}
use Rattle.std.specs.List.{Contains}

pub by_cases : {P : Type 0} (b : Bool) → (b ≡ true → P) → (b ≡ false → P) → P
by_cases true f g = f refl
by_cases false f g = g refl

pub by_order : {P : Type 0} (a b : ℕ) → (a < b → P) → (b ≤ a → P) → P
by_order a zero f g = g (omega arith)
by_order zero (suc b) f g = f (omega arith)
by_order (suc a) (suc b) f g = by_order a b (λ h. f (omega arith)) (λ h. g (omega arith))

pub nothing_in : {X : Type 0} {P : Type 0} (x : X) → Contains [] x → P
nothing_in x c = absurd (let lt = c.1 in omega arith)

pub first_in : {X : Type 0} (x : X) (xs : List X) → Contains (x ∷ xs) x
first_in x xs = (0, omega arith, refl)

pub later_in : {X : Type 0} (y x : X) (xs : List X) → Contains xs x → Contains (y ∷ xs) x
later_in y x xs c = (suc c.0, (let lt = c.1 in omega arith), c.2)

pub one_of : {X : Type 0} (y x : X) (xs : List X) → Contains (y ∷ xs) x → (y ≡ x) ⊎ Contains xs x
one_of y x xs c = at_place c.0 c.1 c.2
  where
    at_place : (k : ℕ) → k < length (y ∷ xs) → get_or (y ∷ xs) k x ≡ x → (y ≡ x) ⊎ Contains xs x
    at_place zero lt e = inl e
    at_place (suc k) lt e = inr (k, omega arith, e)
