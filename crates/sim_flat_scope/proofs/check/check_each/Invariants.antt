use Rattle.std.proofs.Common.{◌≡◌, drop}
use Rattle.sim_flat_scope.specs.Faults.{earliest}
use Rattle.sim_flat_scope.specs.DeclaredNames.{named_by}
use Rattle.sim_flat_scope.specs.DeclarationFaults.{names_faults}
use Rattle.sim_flat_scope.proofs.check.check_each.Given as goal

abbrev pub invariant-loop-name : goal.invariant-loop-name
invariant-loop-name l =
    earliest l.first (names_faults l.known (named_by (drop l.name-index l.names)))
    ≡ earliest l.fn.first (names_faults l.fn.known (named_by l.names))
