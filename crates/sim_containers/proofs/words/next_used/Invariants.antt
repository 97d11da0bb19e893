use Rattle.std.proofs.Common.{ℕ, ◌≡◌, ◌≤◌, ◌<◌, ◌-◌, length, slice_index}
use Rattle.sim_containers.proofs.words.next_used.Given as goal

abbrev pub invariant-loop-place : goal.invariant-loop-place
invariant-loop-place l = record {
  further : l.from ≤ l.place;
  before : (k : ℕ) → l.from ≤ k → k < l.place → slice_index l.words k ≡ 0;
}

abbrev pub decreases-loop-place : goal.decreases-loop-place
decreases-loop-place l = length l.words - l.place
