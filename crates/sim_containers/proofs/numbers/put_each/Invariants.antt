use Rattle.std.proofs.Common.{ℕ, ◌≡◌, ◌<◌, length, true, slice_index_or}
use Rattle.sim_containers.specs.Numbers.{is_in}
use Rattle.sim_containers.proofs.numbers.put_each.Given as goal

abbrev pub invariant-loop-place : goal.invariant-loop-place
invariant-loop-place l = record {
  len : length l.bits ≡ length l.set;
  sound : (m : ℕ) → is_in l.bits m ≡ true → is_in l.set m ≡ true;
  there : (i : ℕ) → i < l.place → is_in l.bits (slice_index_or l.numbers i 0) ≡ true;
}
