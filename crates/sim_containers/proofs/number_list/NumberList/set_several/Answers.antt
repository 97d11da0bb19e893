use Rattle.std.proofs.Common.{◌∙◌, ◌≤◌, ap, arith, length, subst, sym, vec_capacity, List, ℕ}
use Rattle.sim_containers.specs.Numbers.{is_in, set_with, IsListOf}
use Rattle.sim_containers.proofs.Lists.{few, in_risen, rising_list, sized, within_bound}
use Rattle.sim_containers.proofs.number_list.NumberList.set_several.Goals as goal

pub push_each-requires-clause-room : goal.push_each-requires-clause-room
push_each-requires-clause-room c =
    let rises = within_bound c.self.inside.numbers.items c.self.inside.bound c.args.self.now c.args.numbers.now c.self.view_is c.requires in
    let most = few c.self.inside.bound c.args.numbers.now rises in
    omega (arith, most, c.clear.ensures.capacity, c.self.invariant.room)

pub invariant_of-self : goal.invariant_of-self
invariant_of-self c =
    let rises = within_bound c.self.inside.numbers.items c.self.inside.bound c.args.self.now c.args.numbers.now c.self.view_is c.requires in
    let room : c.self.inside.bound ≤ vec_capacity c.push_each.new.list = omega (
      arith,
      c.push_each.ensures.capacity,
      c.clear.ensures.capacity,
      c.self.invariant.room,
    ) in
    subst (λ (xs : List ℕ). IsListOf xs (vec_capacity c.push_each.new.list) c.self.inside.bound) (sym c.push_each.ensures.items)
    (rising_list c.args.numbers.now (vec_capacity c.push_each.new.list) c.self.inside.bound rises room)

pub returns-clause-sized : goal.returns-clause-sized
returns-clause-sized c = sized c.push_each.new.list.items c.self.inside.bound
    ∙ (sym (sized c.self.inside.numbers.items c.self.inside.bound) ∙ ap length c.self.view_is)

pub returns-clause-members : goal.returns-clause-members
returns-clause-members c n =
    let rises = within_bound c.self.inside.numbers.items c.self.inside.bound c.args.self.now c.args.numbers.now c.self.view_is c.requires in
    ap (λ (xs : List ℕ). is_in (set_with xs c.self.inside.bound) n) c.push_each.ensures.items
    ∙ in_risen c.args.numbers.now c.self.inside.bound rises n
