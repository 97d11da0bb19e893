use Rattle.std.proofs.Common.{map}
use Rattle.sim_logic.specs.declared.logic.Logic.TheVariants as logic
use Rattle.sim_run_listing.specs.Listing.{line_of}
use Rattle.sim_run_listing.proofs.Gathering.{next_part, part_fails, on_err}
use Rattle.sim_run_listing.proofs.listing.put_changes.Goals as goal

pub returns-in_err-put_line-clause-part : goal.returns-in_err-put_line-clause-part
returns-in_err-put_line-clause-part g c =
    on_err _ _ (part_fails (line_of c.args.head.now.text (map g.N.Named.name_of c.args.names.now)) (0, logic.U) (g.W.Write.contents c.args.out.now)
    (g.W.Write.contents c.loop-change.out) (g.W.Write.contents c.put_line.new.out) c.args.block.now c.loop-change.block c.args.changes.now
    c.loop-change.change-index c.loop-change-test.true c.loop-change.invariant c.in_err-put_line.ensures.part)

pub loop-change-preserved : goal.loop-change-preserved
loop-change-preserved g c =
    next_part (line_of c.args.head.now.text (map g.N.Named.name_of c.args.names.now)) (0, logic.U) (g.W.Write.contents c.args.out.now)
    (g.W.Write.contents c.loop-change.out) (g.W.Write.contents c.put_line.new.out) c.args.block.now c.loop-change.block c.put_line.new.block
    c.args.changes.now c.loop-change.change-index c.loop-change-test.true c.loop-change.invariant c.in_ok-put_line.ensures.ok
