use Rattle.std.proofs.Common.{ℕ, ◌≤◌, ◌<◌}
use Rattle.sim_standard.specs.Drivers.{transaction_at}
use Rattle.sim_wave.proofs.edit.count_before.Given as goal

abbrev pub invariant-loop-place : goal.invariant-loop-place
invariant-loop-place l = record {
  within : l.place ≤ l.end;
  above : (k : ℕ) → l.place ≤ k → k < l.end → l.time ≤ (transaction_at l.pending k).0;
}

abbrev pub decreases-loop-place : goal.decreases-loop-place
decreases-loop-place l = l.place
