use Rattle.std.proofs.Common.{◌≤◌, ◌+◌, ◌-◌, ◌≡◌, ◌++◌, length, take}
use Rattle.smallvec.specs.SmallVec.{small_vec_len}
use Rattle.sim_wave.specs.Rising.{scheduled}
use Rattle.sim_wave.proofs.edit.append.Given as goal

abbrev pub invariant-loop-delay : goal.invariant-loop-delay
invariant-loop-delay l = record {
  items : l.list.items ≡ l.initial.list.items ++ scheduled l.now (take l.delay-index l.elements);
  capacity : l.list.capacity ≡ l.initial.list.capacity;
  room : small_vec_len l.list + (length l.elements - l.delay-index) ≤ l.list.capacity;
}
