use Rattle.std.proofs.Common.{◌≡◌, ◌+◌, drop}
use Rattle.sim_flat_scope.specs.Scopes.{declaring}
use Rattle.sim_flat_scope.specs.Regions.{objects}
use Rattle.sim_flat_scope.proofs.region.declare_objects.Given as goal

abbrev pub invariant-loop-name : goal.invariant-loop-name
invariant-loop-name g l =
    (declaring (g.D.Declare.declared l.region) (objects l.object l.place (drop l.name-index l.names))
    ≡ declaring (g.D.Declare.declared l.fn.region) (objects l.object l.first l.names))
    × (l.place ≡ l.first + l.name-index)
