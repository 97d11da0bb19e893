use Rattle.std.proofs.Common.{heap_items, rules}
use Rattle.sim_containers.proofs.Queues.{empty_queue}
use Rattle.sim_containers.proofs.times.TimeQueue.new.Goals as goal

pub invariant_of-result : goal.invariant_of-result
invariant_of-result c =
    empty_queue c.args.drivers 0 0 c.in_ok-times.times.items c.in_ok-front.front c.in_ok-later.later (heap_items c.new-3.result)
    (search rules) c.in_ok-front.ensures c.in_ok-later.ensures c.new-3.ensures.items
    c.new-3.ensures.heap_order
