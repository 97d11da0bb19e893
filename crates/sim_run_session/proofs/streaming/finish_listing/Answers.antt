use Rattle.std.proofs.lemmas.Result.{on_err_weaker, on_ok_weaker}
use Rattle.sim_run_session.proofs.LinesMeanwhile.{end_fails, end_listed, listed_by}
use Rattle.sim_run_session.proofs.streaming.finish_listing.Goals as goal

pub returns : goal.returns
returns g c begin listed =
    let run = c.args.run.now in
    let options = c.args.options.now in
    let before = g.W.Write.contents c.args.out.now in
    let after = g.W.Write.contents c.write_end.new.out in
    listed_by run options c.requires.of begin before after listed c.write_end.result
    (on_ok_weaker c.write_end.result (end_listed run options c.requires.of begin before after listed c.requires.finished) c.write_end.ensures.ok)
    (on_err_weaker c.write_end.result (end_fails run options c.requires.of begin before after listed c.requires.finished) c.write_end.ensures.part)
    c.write_end.ensures.err
