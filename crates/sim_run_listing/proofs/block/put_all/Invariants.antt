use Rattle.std.proofs.Common.{take}
use Rattle.std.specs.Prelude.{flat_map}
use Rattle.sim_run_listing.specs.Writing.{Gathers}
use Rattle.sim_run_listing.proofs.block.put_all.Given as goal

abbrev pub invariant-loop-piece : goal.invariant-loop-piece
invariant-loop-piece g l = Gathers (g.W.Write.contents l.initial.out) l.initial.block (g.W.Write.contents l.out) l.block
    (flat_map (λ p. p.now) (take l.piece-index l.pieces))
