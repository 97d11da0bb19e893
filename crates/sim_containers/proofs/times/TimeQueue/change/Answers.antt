use Rattle.std.proofs.Common.{◌≡◌, List, Option, ℕ, heap_items, rules, set, subst, arith}
use Rattle.std.proofs.lemmas.Grind.{common_steps}
use Rattle.sim_containers.specs.Entries.{HasLiveTop, StandsBut}
use Rattle.sim_containers.proofs.Queues.{put_at, put_later}
use Rattle.sim_containers.proofs.times.TimeQueue.change.Goals as goal

pub invariant_of-self-2 : goal.invariant_of-self-2
invariant_of-self-2 c =
    let times : c.as_slice.result.now ≡ set c.self.inside.times.items c.args.driver c.args.time = search rules in
    record {
      front_is = put_at c.self.inside.front_time c.self.inside.times.items c.self.inside.front c.put.new.self c.args.driver c.args.time c.is_time.result
          c.self.invariant.front_is c.is_time.ensures c.put.ensures;
      later_is = put_later c.self.inside.front_time c.self.inside.later_time c.self.inside.times.items c.self.inside.later c.put-2.new.self c.args.driver
          c.args.time c.is_later.result c.self.invariant.later_is c.is_later.ensures c.put-2.ensures;
      order = c.trim.ensures.order;
      stands = subst (λ (ts : List (Option ℕ)). StandsBut c.self.inside.front_time c.self.inside.later_time ts (heap_items c.trim.new.heap)) times
          c.trim.ensures.stands;
      live = subst (λ (ts : List (Option ℕ)). HasLiveTop ts (heap_items c.trim.new.heap)) times c.trim.ensures.live;
    }

pub put-requires : goal.put-requires
put-requires c = grind (arith, common_steps)

pub put-requires-2 : goal.put-requires-2
put-requires-2 c = grind (arith, common_steps)
