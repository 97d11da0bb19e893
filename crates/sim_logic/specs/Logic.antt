-- The nine values of std_ulogic and their characters.
use Rattle.std.specs.Prelude.{ℕ, Bool, ◌==◌, if◌then◌else◌}
use Rattle.sim_logic.specs.declared.logic.Logic.{Logic}
use Rattle.sim_logic.specs.declared.logic.Logic.TheVariants.{U, X, Zero, One, Z, W, L, H, Dash}

-- the byte of a value's character literal (IEEE 1164, type std_ulogic)
abbrev pub byte_of : Logic → ℕ
byte_of U = 85
byte_of X = 88
byte_of Zero = 48
byte_of One = 49
byte_of Z = 90
byte_of W = 87
byte_of L = 76
byte_of H = 72
byte_of Dash = 45

-- the value of a character; '-' for a byte that is none of the nine
abbrev pub value_of : ℕ → Logic
value_of byte =
    if byte == 85 then U else
    (if byte == 88 then X else
    (if byte == 48 then Zero else
    (if byte == 49 then One else
    (if byte == 90 then Z else
    (if byte == 87 then W else
    (if byte == 76 then L else
    (if byte == 72 then H else Dash)))))))

-- whether two values are the same
abbrev pub is_same : Logic → Logic → Bool
is_same a b = byte_of a == byte_of b
