-- The limits of a design file.
use Rattle.std.specs.Prelude.{ℕ}

-- the largest number of open parentheses in an expression
abbrev pub most_parentheses : ℕ
most_parentheses = 64

-- the largest number of open ifs in a process
abbrev pub most_ifs : ℕ
most_ifs = 64
