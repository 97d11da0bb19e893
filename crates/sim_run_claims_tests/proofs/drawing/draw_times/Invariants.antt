use Rattle.std.proofs.Common.{◌≡◌}
use Rattle.sim_run_claims.specs.Seats.{IsOf, balance}
use Rattle.sim_run_claims_tests.proofs.drawing.draw_times.Given as goal

abbrev pub invariant-loop-turn : goal.invariant-loop-turn
invariant-loop-turn l = IsOf l.fn.claims l.seat × (balance l.seat ≡ balance l.fn.seat)
