use Rattle.std.proofs.Common.{heap_items, heap_len}
use Rattle.std.specs.BinaryHeap.{IsHeap}
use Rattle.sim_containers.specs.Entries.{entry_cmp, StandsBut}
use Rattle.sim_containers.proofs.entries.drop_stale.Given as goal

abbrev pub invariant-loop-heap : goal.invariant-loop-heap
invariant-loop-heap l = record {
  order : IsHeap entry_cmp (heap_items l.heap);
  stands : StandsBut l.now l.later l.times (heap_items l.heap);
}

abbrev pub decreases-loop-heap : goal.decreases-loop-heap
decreases-loop-heap l = heap_len l.heap
