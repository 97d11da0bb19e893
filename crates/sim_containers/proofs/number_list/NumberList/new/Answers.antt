use Rattle.std.proofs.Common.{◌∙◌, ◌≤◌, ap, arith, subst, sym, vec_capacity, List, [], ℕ}
use Rattle.sim_containers.specs.Numbers.{set_with, IsListOf}
use Rattle.sim_containers.proofs.Lists.{none_with, rising_list}
use Rattle.sim_containers.proofs.number_list.NumberList.new.Goals as goal

pub invariant_of-result : goal.invariant_of-result
invariant_of-result c =
    let room : c.args.count ≤ vec_capacity c.in_ok-numbers.numbers = omega (arith, c.in_ok-numbers.ensures.capacity) in
    subst (λ (xs : List ℕ). IsListOf xs (vec_capacity c.in_ok-numbers.numbers) c.args.count) (sym c.in_ok-numbers.ensures.items)
    (rising_list [] (vec_capacity c.in_ok-numbers.numbers) c.args.count tt room)

pub returns : goal.returns
returns c = ap (λ (xs : List ℕ). set_with xs c.args.count) c.in_ok-numbers.ensures.items ∙ none_with c.args.count
