use Rattle.std.proofs.Common.{◌∙◌, ◌≡◌, ◌<◌, ◌≤◌, ap, length, get_or, sym, List, ℕ, subst, IfSome, IfNone}
use Rattle.sim_containers.specs.Numbers.{members}
use Rattle.sim_containers.proofs.Ranges.{next_listed}
use Rattle.sim_containers.proofs.number_list.NumberList.next.Goals as goal

pub returns : goal.returns
returns c =
    let whole : c.as_slice.result.now ≡ members c.args.self.now = c.as_slice.ensures.value ∙ (c.self.invariant.listed ∙ ap members c.self.view_is) in
    let same : c.as_slice-2.result.now ≡ c.as_slice.result.now = c.as_slice-2.ensures.value ∙ sym c.as_slice.ensures.value in
    next_listed c.args.self.now c.args.from c.place_from-place.result c.as_slice.result.now c.at_place.result whole
    c.place_from-place.ensures.within c.place_from-place.ensures.from c.place_from-place.ensures.before
    (subst (λ (xs : List ℕ). IfSome c.at_place.result (λ (n : ℕ). (c.place_from-place.result < length xs) × (n ≡ get_or xs c.place_from-place.result 0)))
    same c.at_place.ensures.some)
    (subst (λ (xs : List ℕ). IfNone c.at_place.result (length xs ≤ c.place_from-place.result)) same c.at_place.ensures.none)
