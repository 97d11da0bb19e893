use Rattle.std.proofs.Common.{ℕ, ◌≡◌, ◌<◌, ◌≤◌, ◌-◌, false, length, slice_index}
use Rattle.sim_containers.specs.Words.{has}
use Rattle.sim_containers.proofs.words.clear_used.Given as goal

abbrev pub invariant-loop-from : goal.invariant-loop-from
invariant-loop-from l = record {
  len : length l.words.items ≡ length l.initial.words.items;
  none : (k : ℕ) → k < l.from → slice_index l.words.items k ≡ 0;
  rest : (k : ℕ) → l.from ≤ k → slice_index l.words.items k ≡ slice_index l.initial.words.items k;
  tops_len : length l.tops.items ≡ length l.initial.tops.items;
  no_tops : (k : ℕ) → k < l.from → has l.tops.items k ≡ false;
  tops : (k : ℕ) → l.from ≤ k → has l.tops.items k ≡ has l.initial.tops.items k;
  within : l.from ≤ length l.words.items;
}

abbrev pub decreases-loop-from : goal.decreases-loop-from
decreases-loop-from l = length l.words.items - l.from
