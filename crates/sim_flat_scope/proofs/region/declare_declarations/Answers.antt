use Rattle.sim_flat_scope.specs.Scopes.{means}
use Rattle.sim_flat_scope.proofs.Declaring.{declarations_step}
use Rattle.sim_flat_scope.proofs.region.declare_declarations.Goals as goal

pub loop-declaration-preserved : goal.loop-declaration-preserved
loop-declaration-preserved c =
    declarations_step (means c.args.inner.now c.args.outer.now) c.loop-declaration.scope _ _ c.loop-declaration.places.signal _
    c.loop-declaration.places.component _ c.loop-declaration.declaration-index c.args.declarations.now
    c.declaration-item.result c.loop-declaration-test.true c.declaration-item.is c.loop-declaration.invariant c.in_ok-places.ensures.names
    c.in_ok-places.ensures.signal c.in_ok-places.ensures.component
