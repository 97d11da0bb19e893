use Rattle.std.proofs.Common.{◌≡◌, drop}
use Rattle.sim_flat_scope.specs.Faults.{earliest}
use Rattle.sim_flat_scope.specs.Scopes.{means}
use Rattle.sim_flat_scope.specs.DeclarationFaults.{variable_types}
use Rattle.sim_flat_scope.proofs.check.check_variable_types.Given as goal

abbrev pub invariant-loop-variable : goal.invariant-loop-variable
invariant-loop-variable l =
    earliest l.first (variable_types (means l.inner l.outer) (drop l.variable-index l.variables))
    ≡ earliest l.fn.first (variable_types (means l.inner l.outer) l.variables)
