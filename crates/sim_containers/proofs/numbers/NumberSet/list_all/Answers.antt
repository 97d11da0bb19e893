use Rattle.std.proofs.Common.{◌∙◌, ◌≡◌, ap, arith, length}
use Rattle.sim_containers.specs.Numbers.{is_in, members}
use Rattle.sim_containers.proofs.Ranges.{few_below}
use Rattle.sim_containers.proofs.numbers.NumberSet.list_all.Goals as goal

pub push_each-requires-clause-room : goal.push_each-requires-clause-room
push_each-requires-clause-room c =
    let whole : c.as_slice.result.now ≡ members c.args.self.now = c.as_slice.ensures.value ∙ (c.self.invariant.listed c.if-self.true
    ∙ ap members c.self.view_is) in
    omega (arith, ap length whole, few_below (is_in c.args.self.now) (length c.args.self.now), c.requires, c.clear.ensures.capacity)
