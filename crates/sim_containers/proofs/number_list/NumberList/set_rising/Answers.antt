use Rattle.std.proofs.Common.{ℕ, List, subst, sym}
use Rattle.sim_containers.specs.Numbers.{RiseWithin}
use Rattle.sim_containers.proofs.Lists.{within_length}
use Rattle.sim_containers.proofs.number_list.NumberList.set_rising.Goals as goal

pub set_to-requires : goal.set_to-requires
set_to-requires c =
    within_length c.self.inside.numbers.items c.self.inside.bound c.args.self.now c.row.result.now c.self.view_is
    (subst (λ (ns : List ℕ). RiseWithin 0 c.self.inside.bound ns) (sym c.row.ensures) (c.rises.ensures c.if-not-rises.false))
