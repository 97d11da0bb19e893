use Rattle.std.proofs.Common.{◌≡◌, drop}
use Rattle.sim_flat_scope.specs.Faults.{earliest}
use Rattle.sim_flat_check.specs.Concurrents.{statements_faults}
use Rattle.sim_flat_check.proofs.concurrents.check_statements.Given as goal

abbrev pub invariant-loop-statement : goal.invariant-loop-statement
invariant-loop-statement l =
    earliest l.first (statements_faults l.library l.region l.components (drop l.statement-index l.statements))
    ≡ earliest l.fn.first (statements_faults l.library l.region l.components l.statements)
