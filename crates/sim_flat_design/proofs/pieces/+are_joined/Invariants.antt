use Rattle.std.proofs.Common.{length}
use Rattle.sim_flat_design.proofs.pieces.+are_joined.Given as goal

abbrev pub decreases-are_joined : goal.decreases-are_joined
decreases-are_joined l = length l.pieces.now
