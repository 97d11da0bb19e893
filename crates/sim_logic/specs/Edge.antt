-- Rising and falling edges.
use Rattle.std.specs.Prelude.{Bool, true, false, ◌&&◌}
use Rattle.sim_logic.specs.declared.logic.Logic.{Logic}
use Rattle.sim_logic.specs.declared.logic.Logic.TheVariants.{Zero, One}
use Rattle.sim_logic.specs.Tables.{to_x01}

-- whether a value is '0'
abbrev pub is_zero : Logic → Bool
is_zero Zero = true
is_zero _ = false

-- whether a value is '1'
abbrev pub is_one : Logic → Bool
is_one One = true
is_one _ = false

-- whether the change from old to new is a rising edge (IEEE 1164, function rising_edge)
abbrev pub rises : Logic → Logic → Bool
rises old new = is_zero (to_x01 old) && is_one (to_x01 new)

-- whether the change from old to new is a falling edge (IEEE 1164, function falling_edge)
abbrev pub falls : Logic → Logic → Bool
falls old new = is_one (to_x01 old) && is_zero (to_x01 new)
