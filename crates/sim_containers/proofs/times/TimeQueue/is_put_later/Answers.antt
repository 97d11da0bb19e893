use Rattle.std.proofs.Common.{◌≡◌, ◌∙◌, None, heap_items, rules, sym, arith}
use Rattle.std.proofs.lemmas.Grind.{common_steps}
use Rattle.sim_containers.specs.Times.{time_of}
use Rattle.sim_containers.proofs.Queues.{joined_later}
use Rattle.sim_containers.proofs.times.TimeQueue.is_put_later.Goals as goal

pub invariant_of-self : goal.invariant_of-self
invariant_of-self c =
    let free : time_of c.self.inside.times.items c.args.driver ≡ None = search rules in
    joined_later c.self.inside.times.items c.self.inside.front_time c.self.inside.later_time c.self.inside.front c.self.inside.later c.insert.new.self
    (heap_items c.self.inside.heap) c.args.driver c.args.time free (sym c.is_later.ensures ∙ c.if-is_later.true) c.insert.ensures c.self.invariant

pub insert-requires : goal.insert-requires
insert-requires c = grind (arith, common_steps)
