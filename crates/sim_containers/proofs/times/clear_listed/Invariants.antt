use Rattle.std.proofs.Common.{ℕ, ◌≡◌, ◌≢◌, ◌<◌, None, length, slice_index_or}
use Rattle.sim_containers.specs.Times.{time_of}
use Rattle.sim_containers.proofs.times.clear_listed.Given as goal

abbrev pub invariant-loop-place : goal.invariant-loop-place
invariant-loop-place l = record {
  len : length l.times.items ≡ length l.initial.times.items;
  gone : (k : ℕ) → k < l.place → time_of l.times.items (slice_index_or l.drivers k 0) ≡ None;
  others : (d : ℕ) → ((k : ℕ) → k < l.place → slice_index_or l.drivers k 0 ≢ d) → time_of l.times.items d ≡ time_of l.initial.times.items d;
}
