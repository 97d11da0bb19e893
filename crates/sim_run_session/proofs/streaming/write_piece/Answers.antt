use Rattle.sim_run_listing.proofs.Gathering.{on_err}
use Rattle.sim_run_session.proofs.LinesMeanwhile.{passed_in_part, passed_on}
use Rattle.sim_run_session.proofs.streaming.write_piece.Goals as goal

pub returns-in_err-write_rest-clause-failed : goal.returns-in_err-write_rest-clause-failed
returns-in_err-write_rest-clause-failed g c =
    on_err _ _ (passed_in_part c.args.run.now c.is_within_bounds.ensures.within (g.W.Write.contents c.args.out.now)
    (g.W.Write.contents c.write_rest.new.out) c.in_err-write_rest.ensures.part)

pub returns-clause-ok : goal.returns-clause-ok
returns-clause-ok g c =
    passed_on c.args.run.now c.give-written.new.self c.give-written.ensures.given c.is_within_bounds.ensures.recorded (g.W.Write.contents c.args.out.now)
    (g.W.Write.contents c.write_rest.new.out) c.in_ok-write_rest.ensures.ok
