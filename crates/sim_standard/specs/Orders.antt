-- Processes of one cycle, executed one after another in some order, which the standard leaves open (IEEE 1076-2008, 14.7.5.3).
use Rattle.std.specs.Prelude.{ℕ, ◌≡◌, ◌==◌, ◌||◌, List, [], ◌∷◌, Bool, false, ⊤}
use Rattle.sim_flat_design.specs.Processes.{Process}
use Rattle.sim_standard.specs.State.{State}
use Rattle.sim_standard.specs.Processes.{meaning, process_at}

-- one after another in this order, each on the whole state that the one before it left
unfoldable pub one_by_one : List Process → List ℕ → State → State
one_by_one processes [] s = s
one_by_one processes (p ∷ order) s = one_by_one processes order (meaning (process_at processes p) p s)

-- whether a number is among these
abbrev pub is_among : List ℕ → ℕ → Bool
is_among [] n = false
is_among (m ∷ ms) n = (m == n) || is_among ms n

-- No number is in the list twice.
abbrev pub NoRepeats : List ℕ → Type 0
NoRepeats [] = ⊤
NoRepeats (n ∷ ns) = (is_among ns n ≡ false) × NoRepeats ns
