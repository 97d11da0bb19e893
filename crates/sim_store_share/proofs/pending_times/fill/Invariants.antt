use Rattle.std.proofs.Common.{ℕ, ◌≡◌, ◌<◌, true, length}
use Rattle.sim_containers.specs.Numbers.{is_in}
use Rattle.sim_store_share.proofs.pending_times.fill.Given as goal

abbrev pub invariant-loop-number : goal.invariant-loop-number
invariant-loop-number l = record {
  sized : length l.set ≡ length l.initial.set;
  below : (d : ℕ) → d < l.number → is_in l.set d ≡ true;
}
