use Rattle.std.proofs.Common.{◌∙◌, ◌≡◌, ◌<◌, ◌≤◌, ◌-◌, ap, length, get_or, List, ℕ, subst}
use Rattle.std.proofs.lemmas.Grind.{get_or_default_zero}
use Rattle.sim_containers.specs.Numbers.{members}
use Rattle.sim_containers.proofs.Ranges.{next_here}
use Rattle.sim_containers.proofs.number_list.NumberList.next_at.Goals as goal

pub returns-then-is_place : goal.returns-then-is_place
returns-then-is_place c =
    let items : c.as_slice.result.now ≡ c.self.inside.numbers.items = c.as_slice.ensures.value in
    let within : c.args.place < length c.self.inside.numbers.items = subst (λ (xs : List ℕ). c.args.place < length xs) items
    (c.is_place.ensures.within c.if-is_place.true) in
    let after : c.args.from ≤ get_or c.self.inside.numbers.items c.args.place 0 = subst (λ (xs : List ℕ). c.args.from ≤ get_or xs c.args.place 0) items
    (c.is_place.ensures.from c.if-is_place.true) in
    let before : 0 < c.args.place → get_or c.self.inside.numbers.items (c.args.place - 1) 0 < c.args.from = subst (λ (xs : List ℕ). 0 < c.args.place
    → get_or xs (c.args.place - 1) 0 < c.args.from) items (c.is_place.ensures.before c.if-is_place.true) in
    next_here c.args.self.now c.args.from c.args.place c.index.result.now c.self.inside.numbers.items (c.self.invariant.listed
    ∙ ap members c.self.view_is) within after before
    (c.index.ensures ∙ get_or_default_zero c.self.inside.numbers.items c.args.place c.index.result.now within)
