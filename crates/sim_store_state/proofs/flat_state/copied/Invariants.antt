use Rattle.std.proofs.Common.{◌≡◌, take}
use Rattle.sim_store_state.proofs.flat_state.copied.Given as goal

abbrev pub invariant-loop-driver : goal.invariant-loop-driver
invariant-loop-driver l = l.copy.items ≡ take l.driver-index l.drivers
