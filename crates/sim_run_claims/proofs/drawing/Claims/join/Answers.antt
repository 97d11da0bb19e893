use Rattle.std.proofs.Common.{rules, refl}
use Rattle.sim_run_claims.proofs.TableSteps.{joins, looks}
use Rattle.sim_run_claims.proofs.drawing.Claims.join.Goals as goal

pub join_seat-requires : goal.join_seat-requires
join_seat-requires c = (search rules, search rules, search rules, search rules, joins _ _ _ _ _)

pub load-requires : goal.load-requires
load-requires c = (search rules, search rules, looks _ _ _ _)

pub invariant_of-seat : goal.invariant_of-seat
invariant_of-seat c = record {
  known = rw (c.load.ensures.2.0, c.join_seat.ensures.2, c.args.seat.now.known, c.args.other.known) refl;
  holds_no_slot = rw (c.load.ensures.2.0, c.join_seat.ensures.2) c.args.seat.now.holds_no_slot;
  bounded = search rules;
}
