use Rattle.sim_run_listing.proofs.Gathering.{on_err}
use Rattle.sim_run_session.proofs.LinesMeanwhile.{led_ends, led_stops}
use Rattle.sim_run_session.proofs.streaming.carry_and_list.Goals as goal

pub returns-in_default-clause-stopped : goal.returns-in_default-clause-stopped
returns-in_default-clause-stopped g c =
    led_ends c.args.run c.loop-turn.run (g.W.Write.contents c.args.out.now) (g.W.Write.contents c.loop-turn.out) c.loop-turn.invariant.2
    c.is_within_bounds.ensures.within

pub returns-in_err-write_piece-clause-stopped : goal.returns-in_err-write_piece-clause-stopped
returns-in_err-write_piece-clause-stopped g c =
    on_err _ _ (led_stops c.args.run c.loop-turn.run c.in-Some-carry_on.next (g.W.Write.contents c.args.out.now) (g.W.Write.contents c.loop-turn.out)
    (g.W.Write.contents c.write_piece.new.out) c.loop-turn.invariant.2 c.in-Some-carry_on.ensures c.in_err-write_piece.ensures.failed)
