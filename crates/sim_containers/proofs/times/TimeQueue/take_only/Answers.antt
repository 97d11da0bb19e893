use Rattle.std.proofs.Common.{◌≡◌, ◌∙◌, None, List, Option, ℕ, ap, heap_items, rules, set, subst, sym}
use Rattle.sim_containers.specs.Numbers.{is_in}
use Rattle.sim_containers.specs.Words.{IsOnly}
use Rattle.sim_containers.specs.Times.{cleared, those_at}
use Rattle.sim_containers.specs.Entries.{HasLiveTop, IsQueue, StandsBut}
use Rattle.sim_containers.proofs.Queues.{is_alone, only_cleared, sets_left, turned}
use Rattle.sim_containers.proofs.times.TimeQueue.take_only.Goals as goal

pub invariant_of-self : goal.invariant_of-self
invariant_of-self c =
    let times = c.self.inside.times.items in
    let now = c.self.inside.front_time in
    let later = c.self.inside.later_time in
    let time = c.args.time in
    let driver = c.in_ok-driver.driver in
    let heap = heap_items c.drop_stale.new.heap in
    let only = is_alone times now later time driver c.self.inside.front c.self.inside.later (heap_items c.self.inside.heap) c.self.invariant
    c.in_ok-driver.ensures.front c.in_ok-driver.ensures.later in
    let all = only_cleared time times driver only in
    let left = sets_left times now later time c.self.inside.front c.self.inside.later c.clear_at.new.front c.clear_at.new.laters
    (heap_items c.self.inside.heap) c.self.invariant (λ differ. (c.in_ok-driver.ensures.later differ).0) c.clear_at.ensures.front c.clear_at.ensures.later in
    let seen : c.as_slice.result.now ≡ set times driver None = search rules in
    subst (λ (ts : List (Option ℕ)). IsQueue ts c.next_time-self-inside.result later c.clear_at.new.front c.clear_at.new.laters heap) (sym all)
    (turned times now later time c.next_time-self-inside.result c.clear_at.new.front c.clear_at.new.laters heap left.0 left.1 c.drop_stale.ensures.order
    (subst (λ (ts : List (Option ℕ)). StandsBut now later ts heap) (seen ∙ all) c.drop_stale.ensures.stands)
    (subst (λ (ts : List (Option ℕ)). HasLiveTop ts heap) (seen ∙ all) c.drop_stale.ensures.live)
    c.next_time-self-inside.ensures)

pub returns-clause-only : goal.returns-clause-only
returns-clause-only c =
    subst (λ (times : List (Option ℕ)). IsOnly (is_in (those_at c.args.time times)) c.in_ok-driver.driver) c.self.view_is
    (is_alone c.self.inside.times.items c.self.inside.front_time c.self.inside.later_time c.args.time c.in_ok-driver.driver c.self.inside.front
    c.self.inside.later (heap_items c.self.inside.heap) c.self.invariant c.in_ok-driver.ensures.front c.in_ok-driver.ensures.later)

pub returns-clause-queue : goal.returns-clause-queue
returns-clause-queue c =
    only_cleared c.args.time c.self.inside.times.items c.in_ok-driver.driver
    (is_alone c.self.inside.times.items c.self.inside.front_time c.self.inside.later_time c.args.time c.in_ok-driver.driver c.self.inside.front
    c.self.inside.later (heap_items c.self.inside.heap) c.self.invariant c.in_ok-driver.ensures.front c.in_ok-driver.ensures.later)
    ∙ ap (cleared c.args.time) c.self.view_is
