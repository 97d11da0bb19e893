use Rattle.std.proofs.Common.{◌∙◌, ◌≤◌, ap, arith, length, replicate, subst, sym, vec_capacity, List, [], ℕ, false}
use Rattle.sim_containers.specs.Numbers.{set_with, IsListOf}
use Rattle.sim_containers.proofs.Lists.{none_with, rising_list, sized}
use Rattle.sim_containers.proofs.number_list.NumberList.clear.Goals as goal

pub invariant_of-self : goal.invariant_of-self
invariant_of-self c =
    let room : c.self.inside.bound ≤ vec_capacity c.clear.new.self = omega (arith, c.clear.ensures.capacity, c.self.invariant.room) in
    subst (λ (xs : List ℕ). IsListOf xs (vec_capacity c.clear.new.self) c.self.inside.bound) (sym c.clear.ensures.items)
    (rising_list [] (vec_capacity c.clear.new.self) c.self.inside.bound tt room)

pub returns : goal.returns
returns c = ap (λ (xs : List ℕ). set_with xs c.self.inside.bound) c.clear.ensures.items ∙ (none_with c.self.inside.bound
    ∙ ap (λ (n : ℕ). replicate n false) (sym (sized c.self.inside.numbers.items c.self.inside.bound) ∙ ap length c.self.view_is))
