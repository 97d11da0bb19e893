use Rattle.std.proofs.Common.{◌≡◌, drop}
use Rattle.sim_flat_scope.specs.DeclaredNames.{named_by}
use Rattle.sim_flat_scope.specs.Regions.{naming}
use Rattle.sim_flat_scope.proofs.region.declare_each.Given as goal

abbrev pub invariant-loop-name : goal.invariant-loop-name
invariant-loop-name g l =
    naming (g.D.Declare.declared l.region) (named_by (drop l.name-index l.names))
    ≡ naming (g.D.Declare.declared l.fn.region) (named_by l.names)
