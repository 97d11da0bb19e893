-- The pending transactions of a driver, wherever they are stored.
-- Implementation only: what `simulate` promises does not rest on this file.
use Rattle.std.specs.Prelude.{List, [], ◌∷◌, None, Some}
use Rattle.sim_standard.specs.Drivers.{Transaction}
use Rattle.sim_wave.specs.declared.pending.Pending.{Pending}
use Rattle.sim_wave.specs.declared.pending.Pending.TheVariants.{Few, Many}

-- the transactions, earliest first
abbrev pub transactions_of : Pending → List Transaction
transactions_of (Few None) = []
transactions_of (Few (Some only)) = only ∷ []
transactions_of (Many stored) = stored
