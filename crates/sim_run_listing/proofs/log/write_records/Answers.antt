use Rattle.std.proofs.Common.{[], flat_map, map}
use Rattle.std.proofs.lemmas.Result.{on_ok_weaker, on_err_weaker}
use Rattle.sim_run_listing.specs.Listing.{lines_of}
use Rattle.sim_run_listing.proofs.Gathering.{all_out, all_stops, on_err}
use Rattle.sim_run_listing.proofs.log.write_records.Goals as goal

pub returns-clause-ok : goal.returns-clause-ok
returns-clause-ok g c =
    let lines = rw (c.new-block.ensures) at c.in_ok-put_entries.ensures.ok in
    on_ok_weaker c.write_out.result (λ p. all_out (g.W.Write.contents c.args.out.now) (g.W.Write.contents c.put_entries.new.out)
    (g.W.Write.contents c.write_out.new.out) [] c.put_entries.new.block
    (flat_map (lines_of (map g.N.Named.name_of c.args.names.now)) c.args.log.now.records) lines p) c.write_out.ensures.ok

pub returns-clause-part : goal.returns-clause-part
returns-clause-part g c =
    let lines = rw (c.new-block.ensures) at c.in_ok-put_entries.ensures.ok in
    on_err_weaker c.write_out.result (λ p. all_stops (g.W.Write.contents c.args.out.now) (g.W.Write.contents c.put_entries.new.out)
    (g.W.Write.contents c.write_out.new.out) [] c.put_entries.new.block
    (flat_map (lines_of (map g.N.Named.name_of c.args.names.now)) c.args.log.now.records) lines p) c.write_out.ensures.part

pub returns-in_err-put_entries-clause-part : goal.returns-in_err-put_entries-clause-part
returns-in_err-put_entries-clause-part g c =
    let lines = rw (c.new-block.ensures) at c.in_err-put_entries.ensures.part in on_err _ _ lines
