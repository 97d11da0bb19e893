use Rattle.std.proofs.Common.{◌≡◌, take}
use Rattle.sim_standard.specs.State.{driver_values}
use Rattle.sim_store_state.proofs.start.driving_values.Given as goal

abbrev pub invariant-loop-driver : goal.invariant-loop-driver
invariant-loop-driver l = l.values.items ≡ driver_values (take l.driver-index l.drivers)
