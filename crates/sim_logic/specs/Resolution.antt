-- The resolution function of std_logic.
use Rattle.std.specs.Prelude.{List, [], ◌∷◌, fold}
use Rattle.sim_logic.specs.declared.logic.Logic.{Logic}
use Rattle.sim_logic.specs.declared.logic.Logic.TheVariants.{Z}
use Rattle.sim_logic.specs.Tables.{resolution_table}

-- the value of a single driver; otherwise the values folded by the table from 'Z' (IEEE 1164, function resolved)
abbrev pub resolved : List Logic → Logic
resolved (only ∷ []) = only
resolved values = fold resolution_table Z values
