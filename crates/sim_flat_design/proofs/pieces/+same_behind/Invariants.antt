use Rattle.std.proofs.Common.{length, ◌+◌}
use Rattle.sim_flat_design.proofs.pieces.+same_behind.Given as goal

abbrev pub decreases-same_behind : goal.decreases-same_behind
decreases-same_behind l = length l.pieces.now + length l.others.now
