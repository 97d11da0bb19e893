use Rattle.std.proofs.Common.{◌∙◌, ◌≡◌, ap, arith, length, sym}
use Rattle.sim_containers.proofs.Lists.{list_of_set, set_of_list, sized}
use Rattle.sim_containers.proofs.number_list.NumberList.set_from.Goals as goal

pub list-requires : goal.list-requires
list-requires c =
    let len : c.self.inside.bound ≡ length c.args.self.now = sym (sized c.self.inside.numbers.items c.self.inside.bound) ∙ ap length c.self.view_is in
    omega (arith, c.requires, len, c.self.invariant.room)

pub invariant_of-self : goal.invariant_of-self
invariant_of-self c =
    let len : c.self.inside.bound ≡ length c.args.self.now = sym (sized c.self.inside.numbers.items c.self.inside.bound) ∙ ap length c.self.view_is in
    list_of_set c.args.set.now c.list.new.numbers.items _ c.self.inside.bound c.list.ensures.numbers (c.requires ∙ sym len)
    (omega (arith, c.list.ensures.capacity, c.self.invariant.room))

pub returns : goal.returns
returns c =
    let len : c.self.inside.bound ≡ length c.args.self.now = sym (sized c.self.inside.numbers.items c.self.inside.bound) ∙ ap length c.self.view_is in
    set_of_list c.args.set.now c.list.new.numbers.items c.self.inside.bound c.list.ensures.numbers (c.requires ∙ sym len)
