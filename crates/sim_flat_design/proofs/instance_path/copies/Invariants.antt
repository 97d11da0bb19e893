use Rattle.std.proofs.Common.{◌≡◌, take}
use Rattle.sim_flat_design.proofs.instance_path.copies.Given as goal

abbrev pub invariant-loop-piece : goal.invariant-loop-piece
invariant-loop-piece l = l.copies ≡ take l.piece-index l.pieces
