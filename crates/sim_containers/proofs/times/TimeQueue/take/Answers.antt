use Rattle.std.proofs.Common.{◌≡◌, ◌∙◌, List, Option, ℕ, ap, heap_items, subst, sym, arith}
use Rattle.std.proofs.lemmas.Grind.{common_steps}
use Rattle.sim_containers.specs.Times.{cleared, those_at}
use Rattle.sim_containers.specs.Entries.{those_later, HasLiveTop, IsQueue, NoneBefore, StandsBut}
use Rattle.sim_containers.proofs.Least.{least_from_earliest}
use Rattle.sim_containers.proofs.Queues.{turned}
use Rattle.sim_containers.proofs.times.TimeQueue.take.Goals as goal

pub take_out-requires-clause-none_before : goal.take_out-requires-clause-none_before
take_out-requires-clause-none_before c =
    subst (λ (times : List (Option ℕ)). NoneBefore c.args.time times) (sym (c.as_slice.ensures.value ∙ c.self.view_is))
    (least_from_earliest c.args.self.now c.args.time c.requires.least)

pub invariant_of-self : goal.invariant_of-self
invariant_of-self c =
    let all : c.clear_each.new.times.items ≡ cleared c.args.time c.self.inside.times.items =
    c.clear_each.ensures c.args.time (c.take_out.ensures.taken ∙ ap (those_at c.args.time) c.as_slice.ensures.value) in
    let now = c.self.inside.front_time in
    let later = c.self.inside.later_time in
    let heap = heap_items c.drop_stale.new.heap in
    subst (λ (times : List (Option ℕ)). IsQueue times c.next_time-self-inside.result later c.take_out.new.front c.take_out.new.laters heap) (sym all)
    (turned c.self.inside.times.items now later c.args.time c.next_time-self-inside.result c.take_out.new.front c.take_out.new.laters heap
    (c.take_out.ensures.front ∙ ap (λ (times : List (Option ℕ)). those_at now (cleared c.args.time times)) c.as_slice.ensures.value)
    (c.take_out.ensures.later ∙ ap (λ (times : List (Option ℕ)). those_later now later (cleared c.args.time times)) c.as_slice.ensures.value)
    c.drop_stale.ensures.order
    (subst (λ (times : List (Option ℕ)). StandsBut now later times heap) (c.as_slice-2.ensures.value ∙ all) c.drop_stale.ensures.stands)
    (subst (λ (times : List (Option ℕ)). HasLiveTop times heap) (c.as_slice-2.ensures.value ∙ all) c.drop_stale.ensures.live)
    c.next_time-self-inside.ensures)

pub clear_each-requires : goal.clear_each-requires
clear_each-requires c = grind (arith, common_steps)
