use Rattle.std.proofs.Common.{map}
use Rattle.sim_run_listing.specs.Listing.{lines_of}
use Rattle.sim_run_listing.proofs.Gathering.{next_item, item_fails, on_err}
use Rattle.sim_run_listing.proofs.listing.put_records.Goals as goal

pub returns-in_err-put_record-clause-part : goal.returns-in_err-put_record-clause-part
returns-in_err-put_record-clause-part g c =
    on_err _ _ (item_fails (lines_of (map g.N.Named.name_of c.args.names.now)) (g.W.Write.contents c.args.out.now) (g.W.Write.contents c.loop-each.out)
    (g.W.Write.contents c.put_record.new.out) c.args.block.now c.loop-each.block c.args.records.now c.loop-each.each-index c.each-item.result
    c.each-item.is c.loop-each-test.true c.loop-each.invariant c.in_err-put_record.ensures.part)

pub loop-each-preserved : goal.loop-each-preserved
loop-each-preserved g c =
    next_item (lines_of (map g.N.Named.name_of c.args.names.now)) (g.W.Write.contents c.args.out.now) (g.W.Write.contents c.loop-each.out)
    (g.W.Write.contents c.put_record.new.out) c.args.block.now c.loop-each.block c.put_record.new.block c.args.records.now c.loop-each.each-index
    c.each-item.result c.each-item.is c.loop-each-test.true c.loop-each.invariant c.in_ok-put_record.ensures.ok
