use Rattle.std.proofs.Common.{◌∙◌, ◌≡◌, ◌<◌, ap, arith, length, rules}
use Rattle.std.proofs.lemmas.Grind.{get_or_default_zero}
use Rattle.sim_containers.specs.Numbers.{members}
use Rattle.sim_containers.proofs.Ranges.{only_listed, with_list}
use Rattle.sim_containers.proofs.numbers.NumberSet.only.Goals as goal

pub returns-then-len-eq1 : goal.returns-then-len-eq1
returns-then-len-eq1 c =
    let one : length c.self.inside.list.items ≡ 1 = search rules in
    let within : 0 < length c.self.inside.list.items = omega (arith, one) in
    let is_listed = with_list c.self.inside.marks c.self.inside.bits c.self.inside.list.items _ c.self.inside.is_listed c.self.inside.end
    c.self.invariant within in
    only_listed c.args.self.now c.self.inside.list.items c.index.result.now (c.self.invariant.listed is_listed ∙ ap members c.self.view_is) one
    (c.index.ensures ∙ get_or_default_zero c.self.inside.list.items 0 c.index.result.now within)
