-- What all seats together have drawn, and how it agrees with the word.
-- `simulate` does not rest on this file; what claims promise does.
use Rattle.std.specs.Prelude.{◌≡◌, ℕ, ◌+◌, ◌<◌, ◌≤◌, List, [], ◌∷◌, length, ◌==◌, nat_lt, cond}
use mathlib.Core.Option.{some}
use lib.ListN.{get_elem?}
use Rattle.sim_run_claims.specs.declared.view.SeatView.{SeatView}

-- the sum of `f` over a list
abbrev pub total : {A : Type 0} → (A → ℕ) → List A → ℕ
total f [] = 0
total f (x ∷ xs) = f x + total f xs

abbrev pub one_if_same : ℕ → ℕ → ℕ
one_if_same x y = cond (y == x) 1 0

abbrev pub one_if_below : ℕ → ℕ → ℕ
one_if_below x count = cond (nat_lt x count) 1 0

-- how often `x` occurs in a list
abbrev pub occurrences : ℕ → List ℕ → ℕ
occurrences x xs = total (one_if_same x) xs

-- The numbers of the list are those below the count, each once.
abbrev pub AreThoseBelow : ℕ → List ℕ → Type 0
AreThoseBelow count numbers = (x : ℕ) → occurrences x numbers ≡ one_if_below x count

abbrev pub drawn_in : List SeatView → ℕ
drawn_in views = total (λ (v : SeatView). length v.drawn) views

abbrev pub overdraws_in : List SeatView → ℕ
overdraws_in views = total (λ (v : SeatView). v.overdraws) views

abbrev pub allowance_in : List SeatView → ℕ
allowance_in views = total (λ (v : SeatView). v.allowance) views

-- The word counts all draws. Those that gave a number gave the numbers below some count, each once; one is in vain only after all numbers are drawn.
pub record IsLawful (count word : ℕ) (views : List SeatView) : Type 0 where
  pub counted : word ≡ drawn_in views + overdraws_in views
  pub allowed : overdraws_in views + allowance_in views ≡ 64
  pub each_once : (x : ℕ) → total (λ (v : SeatView). occurrences x v.drawn) views ≡ one_if_below x (drawn_in views)
  pub within : drawn_in views ≤ count
  pub all_drawn : 0 < overdraws_in views → drawn_in views ≡ count
  -- a seat with no allowance and no overdraw has drawn nothing
  pub idle : (seat : ℕ) (v : SeatView) → get_elem? views seat ≡ some v → v.allowance ≡ 0 → v.overdraws ≡ 0 → v.drawn ≡ []
