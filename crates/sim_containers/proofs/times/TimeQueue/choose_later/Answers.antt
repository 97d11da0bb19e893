use Rattle.std.proofs.Common.{◌≡◌, heap_items, length, arith}
use Rattle.std.proofs.lemmas.Bool.Decides.{nat_tests}
use Rattle.std.proofs.lemmas.List.{nil_from_length}
use Rattle.sim_containers.proofs.Queues.{chosen}
use Rattle.sim_containers.proofs.times.TimeQueue.choose_later.Goals as goal

pub invariant_of-self : goal.invariant_of-self
invariant_of-self c =
    let none : length (heap_items c.self.inside.heap) ≡ 0 = grind (arith, nat_tests) in
    chosen c.self.inside.times.items c.self.inside.front_time c.self.inside.later_time c.in-Some.time c.self.inside.front c.self.inside.later
    (heap_items c.self.inside.heap) (c.is_clear.ensures c.if-is_clear.true) (nil_from_length (heap_items c.self.inside.heap) none)
    c.self.invariant
