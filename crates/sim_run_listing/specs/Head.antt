-- The start of a line.
use Rattle.std.specs.Prelude.{ℕ, List}

-- a text, and the time whose digits it starts with
pub record TimedText : Type 0 where
  pub time : ℕ
  pub text : List ℕ
