-- Lists of lists, held as one flat list with the index at which each starts.
-- Implementation only: what `simulate` promises does not rest on this file.
use Rattle.std.specs.Prelude.{ℕ, ◌+◌, ◌<◌, ◌≡◌, List, [], ◌∷◌, ◌++◌, length, slice_index_or, slice_range, take}

-- the lists, one after another
abbrev pub joined : {A : Type 0} → List (List A) → List A
joined [] = []
joined (xs ∷ xss) = xs ++ joined xss

-- the start of each list, counted from `n`, and the end of the last one
abbrev pub starts_from : {A : Type 0} → ℕ → List (List A) → List ℕ
starts_from n [] = n ∷ []
starts_from n (xs ∷ xss) = n ∷ starts_from (n + length xs) xss

-- the lists in a flat list, given their starts
abbrev pub rows : {A : Type 0} → List ℕ → List A → List (List A)
rows [] flat = []
rows (a ∷ []) flat = []
rows (a ∷ b ∷ bs) flat = slice_range flat a b ∷ rows (b ∷ bs) flat

-- These lists are held in this form.
pub record IsFlat {A : Type 0} (xss : List (List A)) (starts : List ℕ) (flat : List A) : Type 0 where
  pub starting : starts ≡ starts_from 0 xss
  pub holding : flat ≡ joined xss

-- The element with this number, counted through all lists, is at this position of this list.
pub record IsAt {A : Type 0} (xss : List (List A)) (number part place : ℕ) : Type 0 where
  pub among : part < length xss
  pub inside : place < length (slice_index_or xss part [])
  pub counted : number ≡ length (joined (take part xss)) + place
