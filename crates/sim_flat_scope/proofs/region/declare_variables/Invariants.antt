use Rattle.std.proofs.Common.{◌≡◌, drop}
use Rattle.sim_flat_scope.specs.Scopes.{declaring, means}
use Rattle.sim_flat_scope.specs.Regions.{variables}
use Rattle.sim_flat_scope.proofs.region.declare_variables.Given as goal

abbrev pub invariant-loop-variable : goal.invariant-loop-variable
invariant-loop-variable l =
    declaring l.part (variables (means l.inner l.outer) l.place (drop l.variable-index l.variables))
    ≡ declaring l.fn.part (variables (means l.inner l.outer) 0 l.variables)
