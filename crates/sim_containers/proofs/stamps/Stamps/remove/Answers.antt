use Rattle.std.proofs.Common.{◌∙◌, ap, List, Bool, set, false}
use Rattle.sim_containers.proofs.Stamped.{unmarked}
use Rattle.sim_containers.proofs.stamps.Stamps.remove.Goals as goal

pub returns : goal.returns
returns c =
    unmarked c.self.inside.stamp c.self.inside.stamps.items c.args.number c.self.invariant.begun
    ∙ ap (λ (xs : List Bool). set xs c.args.number false) c.self.view_is
