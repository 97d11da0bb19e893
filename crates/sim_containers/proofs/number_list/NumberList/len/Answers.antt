use Rattle.std.proofs.Common.{◌∙◌, ap, length, sym}
use Rattle.sim_containers.proofs.Lists.{sized}
use Rattle.sim_containers.proofs.number_list.NumberList.len.Goals as goal

pub returns : goal.returns
returns c = sym (sized c.self.inside.numbers.items c.self.inside.bound) ∙ ap length c.self.view_is
