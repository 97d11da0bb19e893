use Rattle.std.proofs.Common.{ℕ, ◌≡◌, ◌≤◌, ◌<◌}
use Rattle.sim_standard.specs.Drivers.{transaction_at}
use Rattle.sim_wave.proofs.edit.chain_start.Given as goal

abbrev pub invariant-loop-place : goal.invariant-loop-place
invariant-loop-place l = record {
  within : l.place ≤ l.end;
  chain : (k : ℕ) → l.place ≤ k → k < l.end → (transaction_at l.pending k).1 ≡ l.value;
}

abbrev pub decreases-loop-place : goal.decreases-loop-place
decreases-loop-place l = l.place
