-- Positions: of the first or the last item of a list that passes a test, of names and of numbers.
use Rattle.std.specs.Prelude.{ℕ, ◌+◌, ◌==◌, ◌&&◌, List, [], ◌∷◌, Bool, true, false, if◌then◌else◌, Option, Some, None}
use Rattle.std.specs.Option.{option_or}
use Rattle.std.specs.Str.{bytes_eq}

-- a position, if the condition holds
abbrev pub where_at : Bool → ℕ → Option ℕ
where_at true place = Some place
where_at false place = None

-- the position of the first item that passes a test, where positions start at `at`
unfoldable pub first_place : {X : Type 0} → (X → Bool) → ℕ → List X → Option ℕ
first_place test at [] = None
first_place test at (x ∷ xs) = option_or (where_at (test x) at) (first_place test (at + 1) xs)

-- the position of the last such item
unfoldable pub last_place : {X : Type 0} → (X → Bool) → ℕ → List X → Option ℕ
last_place test at [] = None
last_place test at (x ∷ xs) = option_or (last_place test (at + 1) xs) (where_at (test x) at)

-- the position of a name; its first entry counts
unfoldable pub place_of : List (List ℕ × ℕ) → List ℕ → Option ℕ
place_of [] n = None
place_of (e ∷ es) n = if bytes_eq n e.0 then Some e.1 else place_of es n

-- the position of a pair of names
unfoldable pub place_of_both : List ((List ℕ × List ℕ) × ℕ) → List ℕ → List ℕ → Option ℕ
place_of_both [] n m = None
place_of_both (e ∷ es) n m = if bytes_eq n e.0.0 && bytes_eq m e.0.1 then Some e.1 else place_of_both es n m

-- the position of a number
unfoldable pub place_of_number : List (ℕ × ℕ) → ℕ → Option ℕ
place_of_number [] n = None
place_of_number (e ∷ es) n = if n == e.0 then Some e.1 else place_of_number es n
