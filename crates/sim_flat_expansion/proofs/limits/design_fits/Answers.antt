use Rattle.std.proofs.Common.{Bool, Decides, sym, subst}
use Rattle.sim_flat_expansion.specs.Flat.{flat}
use Rattle.sim_flat_expansion.specs.Limits.{HasAtMost}
use Rattle.sim_flat_expansion.proofs.Within.{design_fits_is}
use Rattle.sim_flat_expansion.proofs.limits.design_fits.Goals as goal

pub returns : goal.returns
returns c =
    subst (λ (b : Bool). Decides b (HasAtMost c.args.objects (flat c.args.blocks.now c.args.top))) (sym c.all.ensures)
    (design_fits_is c.args.objects c.args.blocks.now c.args.top c.in_ok-nets.nets c.in_ok-processes.processes c.in_ok-drivers.drivers c.in_ok-nets.ensures
    c.in_ok-processes.ensures c.in_ok-drivers.ensures)
