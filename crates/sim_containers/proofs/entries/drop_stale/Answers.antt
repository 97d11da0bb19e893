use Rattle.std.proofs.Common.{heap_items, ◌≡◌, false, subst, sym}
use Rattle.sim_containers.specs.Entries.{Entry, is_live}
use Rattle.sim_containers.proofs.Heaps.{stands_without}
use Rattle.sim_containers.proofs.entries.drop_stale.Goals as goal

pub loop-heap-preserved : goal.loop-heap-preserved
loop-heap-preserved c =
    let stale : is_live c.args.times.now c.pop_top.result ≡ false =
    subst (λ (y : Entry). is_live c.args.times.now y ≡ false) (sym c.pop_top.ensures.top)
    (c.has_stale_top.ensures.stale c.loop-heap-test.true c.pop_top.result) in
    record {
      order = c.pop_top.ensures.order;
      stands = stands_without c.args.now c.args.later c.args.times.now (heap_items c.loop-heap.heap) (heap_items c.pop_top.new.heap) c.pop_top.result
          c.pop_top.ensures.permutation stale c.loop-heap.invariant.stands;
    }
