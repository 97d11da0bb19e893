use Rattle.std.proofs.Common.{flat_map, map}
use Rattle.std.proofs.lemmas.Result.{on_ok_weaker, on_err_weaker}
use Rattle.sim_run_listing.specs.Listing.{end_of, lines_of}
use Rattle.sim_run_listing.proofs.Gathering.{ends_then, on_err, part_of_more, stops_at_end}
use Rattle.sim_run_listing.proofs.log.write_last_records.Goals as goal

pub returns-clause-ok : goal.returns-clause-ok
returns-clause-ok g c =
    on_ok_weaker c.finish.result (λ p. ends_then (g.W.Write.contents c.args.out.now) (g.W.Write.contents c.put_entries.new.out)
    (g.W.Write.contents c.finish.new.out) c.new-block.result c.put_entries.new.block
    (flat_map (lines_of (map g.N.Named.name_of c.args.names.now)) c.args.log.now.records) (end_of c.args.totals.cycles c.args.totals.events)
    c.new-block.ensures c.in_ok-put_entries.ensures.ok p) c.finish.ensures.ok

pub returns-clause-part : goal.returns-clause-part
returns-clause-part g c =
    on_err_weaker c.finish.result (λ p. stops_at_end (g.W.Write.contents c.args.out.now) (g.W.Write.contents c.put_entries.new.out)
    (g.W.Write.contents c.finish.new.out) c.new-block.result c.put_entries.new.block
    (flat_map (lines_of (map g.N.Named.name_of c.args.names.now)) c.args.log.now.records) (end_of c.args.totals.cycles c.args.totals.events)
    c.new-block.ensures c.in_ok-put_entries.ensures.ok p) c.finish.ensures.part

pub returns-in_err-put_entries-clause-part : goal.returns-in_err-put_entries-clause-part
returns-in_err-put_entries-clause-part g c =
    let lines = rw (c.new-block.ensures) at c.in_err-put_entries.ensures.part in
    on_err _ _ (part_of_more (g.W.Write.contents c.args.out.now) (g.W.Write.contents c.put_entries.new.out)
    (flat_map (lines_of (map g.N.Named.name_of c.args.names.now)) c.args.log.now.records)
    (end_of c.args.totals.cycles c.args.totals.events) lines)
