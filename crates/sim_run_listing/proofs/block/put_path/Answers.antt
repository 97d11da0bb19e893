use Rattle.std.proofs.Common.{List, ℕ, ◌++◌, rules}
use Rattle.sim_run_listing.specs.Writing.{AppendsPart, Gathers}
use Rattle.sim_run_listing.proofs.Gathering.{next_item, item_fails, on_err}
use Rattle.sim_run_listing.proofs.block.put_path.Goals as goal

pub returns-in_err-put-clause-part : goal.returns-in_err-put-clause-part
returns-in_err-put-clause-part g c =
    let part : AppendsPart (g.W.Write.contents c.loop-piece.out) (g.W.Write.contents c.put.new.out) (c.loop-piece.block ++ c.piece-item.result) =
    search rules in
    on_err _ _ (item_fails (λ (p : List ℕ). p) (g.W.Write.contents c.args.out.now) (g.W.Write.contents c.loop-piece.out)
    (g.W.Write.contents c.put.new.out) c.args.block.now c.loop-piece.block c.args.pieces.now c.loop-piece.piece-index
    c.piece-item.result c.piece-item.is c.loop-piece-test.true c.loop-piece.invariant part)

pub loop-piece-preserved : goal.loop-piece-preserved
loop-piece-preserved g c =
    let put : Gathers (g.W.Write.contents c.loop-piece.out) c.loop-piece.block (g.W.Write.contents c.put.new.out) c.put.new.block
    c.piece-item.result = search rules in
    next_item (λ (p : List ℕ). p) (g.W.Write.contents c.args.out.now) (g.W.Write.contents c.loop-piece.out)
    (g.W.Write.contents c.put.new.out) c.args.block.now c.loop-piece.block c.put.new.block c.args.pieces.now
    c.loop-piece.piece-index c.piece-item.result c.piece-item.is c.loop-piece-test.true c.loop-piece.invariant put
