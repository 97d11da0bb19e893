use Rattle.std.proofs.Common.{◌≡◌, take}
use Rattle.sim_exec.proofs.done.copies.Given as goal

-- the drivers so far are copied
abbrev pub invariant-loop-driver : goal.invariant-loop-driver
invariant-loop-driver l = l.copied.items ≡ take l.driver-index l.drivers
