use Rattle.std.proofs.Common.{◌≡◌, ◌++◌, drop}
use Rattle.sim_flat_scope.specs.DeclaredNames as spec
use Rattle.sim_flat_scope.proofs.names.Names.push_variables.Given as goal

abbrev pub invariant-loop-variable : goal.invariant-loop-variable
invariant-loop-variable l = l.self ++ spec.variable_names (drop l.variable-index l.variables) ≡ l.fn.self ++ spec.variable_names l.variables
