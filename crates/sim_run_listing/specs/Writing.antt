-- What a writer has been given, and what is buffered for it.
use Rattle.std.specs.Prelude.{◌≡◌, ℕ, ◌<◌, List, ◌++◌, length, take, Option, None, Some}
use Rattle.std.specs.Io.KnownBytes.{Appends}

-- known bytes grow by a proper prefix of `bs`
abbrev pub AppendsPart : Option (List ℕ) → Option (List ℕ) → List ℕ → Type 0
AppendsPart None new bs = Unit {0}
AppendsPart (Some xs) None bs = ⊥
AppendsPart (Some xs) (Some ys) bs = (n : ℕ) × (n < length bs) × (ys ≡ xs ++ take n bs)

-- A writer, for which `held` was buffered, is given `bs`: it was given what is written here, and the rest is buffered.
pub record Gathers (old : Option (List ℕ)) (held : List ℕ) (new : Option (List ℕ)) (left bs : List ℕ) : Type 0 where
  pub written : List ℕ
  pub appended : Appends old new written
  pub kept : held ++ bs ≡ written ++ left
