use Rattle.std.proofs.Common.{ℕ, ◌≤◌, ◌<◌, length, slice_index_or}
use Rattle.sim_containers.proofs.numbers.place_for.Given as goal

abbrev pub invariant-loop-turn : goal.invariant-loop-turn
invariant-loop-turn l = record {
  within : l.place ≤ length l.list;
  after : (i : ℕ) → i < length l.list → l.place ≤ i → l.number ≤ slice_index_or l.list i 0;
}
