use Rattle.std.proofs.Common.{ℕ, ◌≡◌, ◌≢◌, ◌<◌, ◌≤◌, Some, length, heap_items, heap_len}
use Rattle.std.specs.BinaryHeap.{IsHeap, heap_capacity}
use Rattle.std.specs.List.{Contains}
use Rattle.sim_containers.specs.Times.{time_of}
use Rattle.sim_containers.specs.Entries.{entry, entry_cmp}
use Rattle.sim_containers.proofs.entries.rebuild.Given as goal

abbrev pub invariant-loop-driver : goal.invariant-loop-driver
invariant-loop-driver l = record {
  order : IsHeap entry_cmp (heap_items l.heap);
  room : length l.times ≤ heap_capacity l.heap;
  len : heap_len l.heap ≤ l.driver;
  stands : (d t : ℕ) → d < l.driver → time_of l.times d ≡ Some t → t ≢ l.now → t ≢ l.later → Contains (heap_items l.heap) (entry t d);
}
