use Rattle.std.proofs.Common.{◌∷◌, ◌∙◌, Bool, List, heap_items, subst, sym, arith}
use Rattle.std.proofs.lemmas.Grind.{common_steps}
use Rattle.std.specs.List.Sorted.{IsPermutation}
use Rattle.sim_containers.specs.Entries.{Entry, entry, IsTaking}
use Rattle.sim_containers.proofs.Taking.{live_goes, stale_goes}
use Rattle.sim_containers.proofs.entries.take_first.Goals as goal

pub returns-then-not-has_time-clause-taking : goal.returns-then-not-has_time-clause-taking
returns-then-not-has_time-clause-taking c =
    stale_goes c.args.now c.args.later c.args.time c.args.times.now c.args.taken.now (heap_items c.args.heap.now) (heap_items c.pop_top.new.heap)
    (entry c.args.first.0 c.args.first.1)
    (subst (λ (y : Entry). IsPermutation (heap_items c.args.heap.now) (y ∷ heap_items c.pop_top.new.heap))
    (c.pop_top.ensures.top ∙ c.requires.first c.pop_top.result) c.pop_top.ensures.permutation)
    (sym c.has_time.ensures ∙ c.if-not-has_time.true) c.requires.taking

pub returns-clause-taking : goal.returns-clause-taking
returns-clause-taking c =
    subst (λ (taken : List Bool). IsTaking c.args.now c.args.later c.args.time c.args.times.now taken (heap_items c.pop_top.new.heap)) (sym c.insert.ensures)
    (live_goes c.args.now c.args.later c.args.time c.args.times.now c.args.taken.now (heap_items c.args.heap.now) (heap_items c.pop_top.new.heap)
    (entry c.args.first.0 c.args.first.1)
    (subst (λ (y : Entry). IsPermutation (heap_items c.args.heap.now) (y ∷ heap_items c.pop_top.new.heap))
    (c.pop_top.ensures.top ∙ c.requires.first c.pop_top.result) c.pop_top.ensures.permutation)
    c.requires.none_before c.requires.due (sym c.has_time.ensures ∙ c.if-not-has_time.false) c.requires.taking)

pub insert-requires : goal.insert-requires
insert-requires c = grind (arith, common_steps)
