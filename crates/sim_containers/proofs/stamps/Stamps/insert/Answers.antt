use Rattle.std.proofs.Common.{◌∙◌, ap, List, Bool, set, true}
use Rattle.sim_containers.proofs.Stamped.{marked}
use Rattle.sim_containers.proofs.stamps.Stamps.insert.Goals as goal

pub returns : goal.returns
returns c = marked c.self.inside.stamp c.self.inside.stamps.items c.args.number ∙ ap (λ (xs : List Bool). set xs c.args.number true) c.self.view_is
