use Rattle.std.proofs.Common.{rules, arith, refl}
use Rattle.sim_run_claims.proofs.TableSteps.{splits}
use Rattle.sim_run_claims.proofs.drawing.Claims.split.Goals as goal

pub split_seat-other-requires : goal.split_seat-other-requires
split_seat-other-requires c = (search rules, search rules, splits _ _ _)

pub invariant_of-seat : goal.invariant_of-seat
invariant_of-seat c = record {
  known = rw (c.split_seat-other.ensures.2, c.args.seat.now.known) refl;
  holds_no_slot = rw c.split_seat-other.ensures.2 c.args.seat.now.holds_no_slot;
  bounded = omega (arith, c.args.seat.now.bounded);
}
