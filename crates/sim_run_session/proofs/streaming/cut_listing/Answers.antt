use Rattle.std.proofs.Common.{Err}
use Rattle.sim_run_session.proofs.LinesMeanwhile.{cut_listed, first_listed, listed_by}
use Rattle.sim_run_session.proofs.streaming.cut_listing.Goals as goal

pub returns-in-Ok : goal.returns-in-Ok
returns-in-Ok g c begin listed =
    cut_listed c.args.run.now c.args.options.now c.requires.of begin (g.W.Write.contents c.args.out.now) (g.W.Write.contents c.write_rest.new.out) listed
    c.args.reason c.requires.cut c.in-Ok.ensures.ok

pub returns-in-Err : goal.returns-in-Err
returns-in-Err g c begin listed =
    let first = first_listed c.args.run.now c.args.options.now c.requires.of begin (g.W.Write.contents c.args.out.now)
    (g.W.Write.contents c.write_rest.new.out) listed c.is_within_bounds.ensures.within c.in-Err.ensures.part in
    listed_by c.args.run.now c.args.options.now c.requires.of begin (g.W.Write.contents c.args.out.now) (g.W.Write.contents c.write_rest.new.out) listed
    (Err c.in-Err.failed) tt first c.in-Err.ensures.err
