use Rattle.std.proofs.Common.{◌≡◌, drop}
use Rattle.sim_flat_scope.specs.Scopes.{declaring, means}
use Rattle.sim_flat_scope.specs.Regions.{declarations}
use Rattle.sim_flat_scope.proofs.region.declare_declarations.Given as goal

abbrev pub invariant-loop-declaration : goal.invariant-loop-declaration
invariant-loop-declaration l =
    declaring l.scope (declarations (means l.inner l.outer) l.places.signal l.places.component (drop l.declaration-index l.declarations))
    ≡ declaring l.fn.scope (declarations (means l.inner l.outer) l.signal 0 l.declarations)
