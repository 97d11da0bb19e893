use Rattle.std.proofs.Common.{Bool, Decides, sym, subst, ◌∙◌}
use Rattle.sim_flat_expansion.specs.Limits.{Fits}
use Rattle.sim_flat_expansion.proofs.Within.{fits_is, within_limits}
use Rattle.sim_flat_expansion.proofs.limits.fits.Goals as goal

pub returns-clause-fits : goal.returns-clause-fits
returns-clause-fits c =
    subst (λ (b : Bool). Decides b (Fits c.args.limits c.args.blocks.now c.args.top)) (sym c.all.ensures)
    (fits_is c.args.limits c.args.blocks.now c.args.top c.in_ok-deep.deep c.in_ok-instances.instances c.in_ok-design.design c.in_ok-deep.ensures
    (rw c.instances.ensures.value at c.in_ok-instances.ensures) (rw c.objects.ensures.value at c.in_ok-design.ensures))

pub returns-clause-within : goal.returns-clause-within
returns-clause-within c = λ fit. within_limits c.args.limits c.args.blocks.now c.args.top c.in_ok-deep.deep c.in_ok-instances.instances
    c.in_ok-design.design c.objects.ensures.bounded (rw c.objects.ensures.value at c.in_ok-design.ensures) (sym c.all.ensures ∙ fit)
