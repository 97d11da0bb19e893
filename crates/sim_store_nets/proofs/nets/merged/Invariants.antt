use Rattle.std.proofs.Common.{◌≡◌, map, fold, take}
use Rattle.sim_logic.specs.declared.logic.Logic.TheVariants.{Z}
use Rattle.sim_logic.specs.Tables.{resolution_table}
use Rattle.sim_store_nets.specs.Nets.{value_from}
use Rattle.sim_store_nets.proofs.nets.merged.Given as goal

abbrev pub invariant-loop-source : goal.invariant-loop-source
invariant-loop-source l = l.value ≡ fold resolution_table Z (map (value_from l.driving) (take l.source-index l.sources))
