use Rattle.std.proofs.Common.{length}
use Rattle.sim_store_share.specs.Shares.{owned_lists}
use Rattle.sim_store_share.proofs.Divided.{AreSoFar}
use Rattle.sim_store_share.proofs.dividing.divided.Given as goal

abbrev pub invariant-loop-drivers : goal.invariant-loop-drivers
invariant-loop-drivers l = AreSoFar l.each (owned_lists l.initial.drivers l.initial.variables) l.shares.items l.drivers l.variables

abbrev pub decreases-loop-drivers : goal.decreases-loop-drivers
decreases-loop-drivers l = length l.drivers
