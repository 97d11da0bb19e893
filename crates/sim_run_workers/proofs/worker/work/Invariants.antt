use Rattle.std.proofs.Common.{◌≡◌}
use Rattle.sim_run_claims.specs.Seats.{IsOf, balance}
use Rattle.sim_run_workers.proofs.worker.work.Given as goal

abbrev pub invariant-loop : goal.invariant-loop
invariant-loop g l = IsOf l.fn.round.claims l.seat × (balance l.seat ≡ balance l.fn.seat)
