use Rattle.std.proofs.Common.{take}
use Rattle.sim_run_listing.specs.Listing.{joined}
use Rattle.sim_run_listing.specs.Writing.{Gathers}
use Rattle.sim_run_listing.proofs.block.put_path.Given as goal

abbrev pub invariant-loop-piece : goal.invariant-loop-piece
invariant-loop-piece g l = Gathers (g.W.Write.contents l.initial.out) l.initial.block (g.W.Write.contents l.out) l.block
    (joined (take l.piece-index l.pieces))
