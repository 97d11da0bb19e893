use Rattle.std.proofs.Common.{List, ℕ, Bor}
use Rattle.sim_run_listing.proofs.Gathering.{next_part, part_fails, on_err}
use Rattle.sim_run_listing.proofs.block.put_all.Goals as goal

pub returns-in_err-put-clause-part : goal.returns-in_err-put-clause-part
returns-in_err-put-clause-part g c =
    on_err _ _ (part_fails (λ (p : Bor (List ℕ)). p.now) _ (g.W.Write.contents c.args.out.now) (g.W.Write.contents c.loop-piece.out)
    (g.W.Write.contents c.put.new.out) c.args.block.now c.loop-piece.block c.args.pieces.now c.loop-piece.piece-index
    c.loop-piece-test.true c.loop-piece.invariant c.in_err-put.ensures.part)

pub loop-piece-preserved : goal.loop-piece-preserved
loop-piece-preserved g c =
    next_part (λ (p : Bor (List ℕ)). p.now) _ (g.W.Write.contents c.args.out.now) (g.W.Write.contents c.loop-piece.out)
    (g.W.Write.contents c.put.new.out) c.args.block.now c.loop-piece.block c.put.new.block c.args.pieces.now
    c.loop-piece.piece-index c.loop-piece-test.true c.loop-piece.invariant c.in_ok-put.ensures.ok
