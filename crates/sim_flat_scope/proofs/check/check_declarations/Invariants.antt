use Rattle.std.proofs.Common.{◌≡◌, drop}
use Rattle.sim_flat_scope.specs.Faults.{earliest}
use Rattle.sim_flat_scope.specs.DeclarationFaults.{declarations_faults}
use Rattle.sim_flat_scope.proofs.check.check_declarations.Given as goal

abbrev pub invariant-loop-declaration : goal.invariant-loop-declaration
invariant-loop-declaration l =
    earliest l.first (declarations_faults l.scope (drop l.declaration-index l.declarations))
    ≡ earliest l.fn.first (declarations_faults l.scope l.declarations)
