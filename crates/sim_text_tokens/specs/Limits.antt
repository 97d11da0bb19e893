-- The limit on the length of a text.
use Rattle.std.specs.Prelude.{ℕ}

-- the largest length of a text, in bytes
abbrev pub most_bytes : ℕ
most_bytes = 1048576
