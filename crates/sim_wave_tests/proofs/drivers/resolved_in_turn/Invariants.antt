use Rattle.std.proofs.Common.{◌≡◌, map, take}
use Rattle.std.specs.List.{fold}
use Rattle.sim_logic.specs.declared.logic.Logic.TheVariants.{Z}
use Rattle.sim_logic.specs.Tables.{resolution_table}
use Rattle.sim_standard.specs.Drivers.{DriverState}
use Rattle.sim_wave_tests.proofs.drivers.resolved_in_turn.Given as goal

abbrev pub invariant-loop-driver : goal.invariant-loop-driver
invariant-loop-driver l = l.value ≡ fold resolution_table Z (map (λ (driver : DriverState). driver.value) (take l.driver-index l.drivers))
