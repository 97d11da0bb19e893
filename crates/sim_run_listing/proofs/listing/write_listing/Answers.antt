use Rattle.std.proofs.lemmas.Result.{on_ok_weaker, on_err_weaker}
use Rattle.sim_run_listing.specs.Listing.{last_line}
use Rattle.sim_run_listing.proofs.Gathering.{ends_then, stops_at_end}
use Rattle.sim_run_listing.proofs.listing.write_listing.Goals as goal

pub returns-clause-ok : goal.returns-clause-ok
returns-clause-ok g c =
    let ending = rw (c.requires.events) at c.finish.ensures.ok in
    on_ok_weaker c.finish.result (λ p. ends_then (g.W.Write.contents c.args.out.now) (g.W.Write.contents c.put_records.new.out)
    (g.W.Write.contents c.finish.new.out) c.new-block.result c.put_records.new.block _ (last_line c.args.records.now) c.new-block.ensures
    c.in_ok-put_records.ensures.ok p) ending

pub returns-clause-part : goal.returns-clause-part
returns-clause-part g c =
    let ending = rw (c.requires.events) at c.finish.ensures.part in
    on_err_weaker c.finish.result (λ p. stops_at_end (g.W.Write.contents c.args.out.now) (g.W.Write.contents c.put_records.new.out)
    (g.W.Write.contents c.finish.new.out) c.new-block.result c.put_records.new.block _ (last_line c.args.records.now) c.new-block.ensures
    c.in_ok-put_records.ensures.ok p) ending
