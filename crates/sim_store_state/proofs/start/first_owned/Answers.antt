use Rattle.std.proofs.Common.{length, sym, subst}
use Rattle.sim_flat_design.specs.Designs.{AreOwned}
use Rattle.sim_store_state.proofs.Starting.{all_within}
use Rattle.sim_store_state.proofs.start.first_owned.Goals as goal

pub first_drivers-requires : goal.first_drivers-requires
first_drivers-requires c =
    all_within (length c.args.design.now.nets) c.processes.result.now c.drivers.result.now
    (subst (λ ps. AreOwned (length c.args.design.now.nets) 0 0 ps c.drivers.result.now) (sym c.processes.ensures.value) c.drivers.ensures.owned)
