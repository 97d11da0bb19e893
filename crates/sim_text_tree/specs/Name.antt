-- The value of a name in contracts (IEEE 1076-2008, 15.4).
use Rattle.std.specs.Prelude.{ℕ, List}

-- its lower-case letters, digits and underscores, and the offset of its first byte
pub record Name : Type 0 where
  pub text : List ℕ
  pub at : ℕ
