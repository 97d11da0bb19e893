use Rattle.std.proofs.Common.{◌≡◌, ◌∙◌, List, Option, ap, heap_items, subst}
use Rattle.sim_containers.specs.Times.{earlier, earliest}
use Rattle.sim_containers.proofs.Least.{least_time}
use Rattle.sim_containers.proofs.times.TimeQueue.least.Goals as goal

pub returns : goal.returns
returns c =
    subst (λ (times : List (Option _)). c.sooner-2.result ≡ earliest times) c.self.view_is
    (c.sooner-2.ensures ∙ (ap (earlier c.time_of_set-front.result) c.sooner.ensures
    ∙ least_time c.self.inside.times.items c.self.inside.front_time c.self.inside.later_time c.self.inside.front c.self.inside.later
    (heap_items c.self.inside.heap) c.time_of_set-front.result c.time_of_set-later.result c.top_time.result c.self.invariant
    c.time_of_set-front.ensures c.time_of_set-later.ensures c.top_time.ensures.some c.top_time.ensures.none
    (c.top_time.ensures.least c.self.invariant.order)))
