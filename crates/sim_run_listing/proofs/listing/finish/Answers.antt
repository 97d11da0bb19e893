use Rattle.std.proofs.lemmas.Result.{on_ok_weaker, on_err_weaker}
use Rattle.sim_run_listing.proofs.Gathering.{all_out, all_stops}
use Rattle.sim_run_listing.proofs.listing.finish.Goals as goal

pub returns-clause-ok : goal.returns-clause-ok
returns-clause-ok g c =
    on_ok_weaker _ (λ p. all_out (g.W.Write.contents c.args.out.now) (g.W.Write.contents c.put_last.new.out) (g.W.Write.contents c.write_out.new.out)
    c.args.block.now c.put_last.new.block _ c.in_ok-put_last.ensures.ok p) c.write_out.ensures.ok

pub returns-clause-part : goal.returns-clause-part
returns-clause-part g c =
    on_err_weaker _ (λ p. all_stops (g.W.Write.contents c.args.out.now) (g.W.Write.contents c.put_last.new.out)
    (g.W.Write.contents c.write_out.new.out) c.args.block.now c.put_last.new.block _ c.in_ok-put_last.ensures.ok p) c.write_out.ensures.part
