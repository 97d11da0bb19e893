-- Short names, which are copied as a whole.
-- The listing is defined without this file. Of its definitions public clauses name `AreNames` alone.
use Rattle.std.specs.Prelude.{ℕ, nat_lt, ◌≡◌, ◌+◌, List, [], ◌++◌, Option, None, Some, if◌then◌else◌, length, take, slice_index_or, IfSome}
use Rattle.sim_logic.specs.declared.logic.Logic.{Logic}
use Rattle.sim_run_listing.specs.Listing.{pieces_of}

-- the name that 32 bytes hold: as many of the first as the last one says; none if they would be more than 31
abbrev pub short_of : List ℕ → Option (List ℕ)
short_of bytes = let count = slice_index_or bytes 31 0 in if nat_lt count 32 then Some (take count bytes) else None

-- the number of bytes of a name
abbrev pub length_of : Option (List ℕ) → Option ℕ
length_of None = None
length_of (Some name) = Some (length name)

-- a name with a piece at its end, if that has at most 31 bytes
abbrev pub extended : Option (List ℕ) → List ℕ → Option (List ℕ)
extended None piece = None
extended (Some name) piece = if nat_lt (length name + length piece) 32 then Some (name ++ piece) else None

-- A short name is this one, or none.
abbrev pub IsAtMost : Option (List ℕ) → List ℕ → Type 0
IsAtMost short name = IfSome short (λ (text : List ℕ). text ≡ name)

-- Each of these is the name of the net with its number, or none.
abbrev pub AreNames : List (List ℕ) → List (Option (List ℕ)) → Type 0
AreNames names known = (n : ℕ) → IsAtMost (slice_index_or known n None) (slice_index_or names n [])

-- a text with the line of a name at its end
abbrev pub with_line : List ℕ → List ℕ → Option (List ℕ) → Logic → Option (List ℕ)
with_line text head None value = None
with_line text head (Some name) value = Some (text ++ pieces_of head name value)
