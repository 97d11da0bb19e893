use Rattle.std.proofs.Common.{heap_items, heap_len}
use Rattle.std.specs.BinaryHeap.{IsHeap}
use Rattle.sim_containers.specs.Entries.{entry_cmp, IsTaking}
use Rattle.sim_containers.proofs.entries.take_least.Given as goal

abbrev pub invariant-loop-first : goal.invariant-loop-first
invariant-loop-first l = record {
  order : IsHeap entry_cmp (heap_items l.heap);
  taking : IsTaking l.now l.later l.time l.times l.taken (heap_items l.heap);
}

abbrev pub decreases-loop-first : goal.decreases-loop-first
decreases-loop-first l = heap_len l.heap
