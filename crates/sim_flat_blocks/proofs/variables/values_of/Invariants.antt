use Rattle.std.proofs.Common.{◌≡◌, ◌++◌, drop}
use Rattle.sim_flat_scope.specs.Scopes.{means}
use Rattle.sim_flat_blocks.specs.FirstValues.{values_of}
use Rattle.sim_flat_blocks.proofs.variables.values_of.Given as goal

abbrev pub invariant-loop-variable : goal.invariant-loop-variable
invariant-loop-variable l =
    l.found.items ++ values_of (means l.inner l.outer) (drop l.variable-index l.variables) ≡ values_of (means l.inner l.outer) l.variables
