use Rattle.std.proofs.Common.{◌∙◌, refl}
use Rattle.sim_flat_scope.specs.Scopes.{means}
use Rattle.sim_flat_scope.proofs.Declaring.{variables_step}
use Rattle.sim_flat_scope.proofs.region.declare_variables.Goals as goal

pub loop-variable-preserved : goal.loop-variable-preserved
loop-variable-preserved c =
    variables_step (means c.args.inner.now c.args.outer.now) c.loop-variable.part _ _ c.loop-variable.place _
    c.loop-variable.variable-index c.args.variables.now
    c.variable-item.result c.loop-variable-test.true c.variable-item.is c.loop-variable.invariant
    (c.in_ok-place.ensures.declared ∙ rw (c.mark_type-type_.ensures, c.as_slice.ensures.value) refl)
    (c.in_ok-place.ensures.place ∙ rw c.as_slice.ensures.value refl)
