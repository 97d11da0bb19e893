-- The least of some numbers.
use Rattle.std.specs.Prelude.{ℕ, ◌≤◌, min, List, [], ◌∷◌, Option, Some, None}

-- It is the least number with a property; there is none if no number has it.
abbrev pub IsLeast : (ℕ → Type 0) → Option ℕ → Type 0
IsLeast P None = (n : ℕ) → P n → ⊥
IsLeast P (Some n) = P n × ((m : ℕ) → P m → n ≤ m)

-- the lesser of an optional number and another
abbrev pub lesser : Option ℕ → ℕ → ℕ
lesser None n = n
lesser (Some m) n = min m n

-- the least of a list and of the known number
unfoldable pub least_of : Option ℕ → List ℕ → Option ℕ
least_of known [] = known
least_of known (n ∷ ns) = least_of (Some (lesser known n)) ns
