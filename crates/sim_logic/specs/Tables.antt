-- The tables of std_logic_1164. A row has one character per column, in the order U X 0 1 Z W L H -.
use Rattle.std.specs.Prelude.{ℕ, List, codes, slice_index}
use Rattle.sim_logic.specs.declared.logic.Logic.{Logic}
use Rattle.sim_logic.specs.declared.logic.Logic.TheVariants.{U, X, Zero, One, Z, W, L, H, Dash}
use Rattle.sim_logic.specs.Logic.{value_of}

-- the column of a value
abbrev pub column_of : Logic → ℕ
column_of U = 0
column_of X = 1
column_of Zero = 2
column_of One = 3
column_of Z = 4
column_of W = 5
column_of L = 6
column_of H = 7
column_of Dash = 8

-- the entry of a row in the column of a value
abbrev pub in_row : List ℕ → Logic → Logic
in_row row value = value_of (slice_index row (column_of value))

-- the resolution of two values (IEEE 1164, resolution_table)
abbrev pub resolution_table : Logic → Logic → Logic
resolution_table U = in_row (codes "UUUUUUUUU")
resolution_table X = in_row (codes "UXXXXXXXX")
resolution_table Zero = in_row (codes "UX0X0000X")
resolution_table One = in_row (codes "UXX11111X")
resolution_table Z = in_row (codes "UX01ZWLHX")
resolution_table W = in_row (codes "UX01WWWWX")
resolution_table L = in_row (codes "UX01LWLWX")
resolution_table H = in_row (codes "UX01HWWHX")
resolution_table Dash = in_row (codes "UXXXXXXXX")

-- the conjunction of two values (IEEE 1164, and_table)
abbrev pub and_table : Logic → Logic → Logic
and_table U = in_row (codes "UU0UUU0UU")
and_table X = in_row (codes "UX0XXX0XX")
and_table Zero = in_row (codes "000000000")
and_table One = in_row (codes "UX01XX01X")
and_table Z = in_row (codes "UX0XXX0XX")
and_table W = in_row (codes "UX0XXX0XX")
and_table L = in_row (codes "000000000")
and_table H = in_row (codes "UX01XX01X")
and_table Dash = in_row (codes "UX0XXX0XX")

-- the disjunction of two values (IEEE 1164, or_table)
abbrev pub or_table : Logic → Logic → Logic
or_table U = in_row (codes "UUU1UUU1U")
or_table X = in_row (codes "UXX1XXX1X")
or_table Zero = in_row (codes "UX01XX01X")
or_table One = in_row (codes "111111111")
or_table Z = in_row (codes "UXX1XXX1X")
or_table W = in_row (codes "UXX1XXX1X")
or_table L = in_row (codes "UX01XX01X")
or_table H = in_row (codes "111111111")
or_table Dash = in_row (codes "UXX1XXX1X")

-- the exclusive disjunction of two values (IEEE 1164, xor_table)
abbrev pub xor_table : Logic → Logic → Logic
xor_table U = in_row (codes "UUUUUUUUU")
xor_table X = in_row (codes "UXXXXXXXX")
xor_table Zero = in_row (codes "UX01XX01X")
xor_table One = in_row (codes "UX10XX10X")
xor_table Z = in_row (codes "UXXXXXXXX")
xor_table W = in_row (codes "UXXXXXXXX")
xor_table L = in_row (codes "UX01XX01X")
xor_table H = in_row (codes "UX10XX10X")
xor_table Dash = in_row (codes "UXXXXXXXX")

-- the negation of a value (IEEE 1164, not_table)
abbrev pub not_table : Logic → Logic
not_table = in_row (codes "UX10XX10X")

-- a value without its strength (IEEE 1164, function To_X01)
abbrev pub to_x01 : Logic → Logic
to_x01 = in_row (codes "XX01XX01X")
