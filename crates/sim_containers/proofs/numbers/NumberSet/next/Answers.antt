use Rattle.std.proofs.Common.{◌∙◌, ◌≡◌, ◌<◌, ◌≤◌, ap, length, get_or, sym, Bool, List, ℕ, subst, IfSome, IfNone, MatchOption}
use Rattle.sim_containers.specs.Words.{IsNext, NoneFrom}
use Rattle.sim_containers.specs.Numbers.{is_in, members}
use Rattle.sim_containers.proofs.Ranges.{next_listed}
use Rattle.sim_containers.proofs.numbers.NumberSet.next.Goals as goal

pub returns-then-self : goal.returns-then-self
returns-then-self c =
    let whole : c.as_slice.result.now ≡ members c.args.self.now = c.as_slice.ensures.value ∙ (c.self.invariant.listed c.if-self.true
    ∙ ap members c.self.view_is) in
    let same : c.as_slice-then-self.result.now ≡ c.as_slice.result.now = c.as_slice-then-self.ensures.value ∙ sym c.as_slice.ensures.value in
    next_listed c.args.self.now c.args.from c.place_from-place.result c.as_slice.result.now c.at_place-found.result whole
    c.place_from-place.ensures.within c.place_from-place.ensures.from c.place_from-place.ensures.before
    (subst (λ (xs : List ℕ). IfSome c.at_place-found.result (λ (n : ℕ). (c.place_from-place.result < length xs) × (n ≡ get_or xs c.place_from-place.result 0)))
    same c.at_place-found.ensures.some)
    (subst (λ (xs : List ℕ). IfNone c.at_place-found.result (length xs ≤ c.place_from-place.result)) same c.at_place-found.ensures.none)

pub returns : goal.returns
returns c = subst (λ (s : List Bool). MatchOption c.next.result (NoneFrom (is_in s) c.args.from) (IsNext (is_in s) c.args.from))
    (c.self.invariant.marked c.if-self.false ∙ c.self.view_is) c.next.ensures
