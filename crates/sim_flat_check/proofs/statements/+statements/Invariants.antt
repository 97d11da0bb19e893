use Rattle.std.proofs.Common.{◌≡◌, drop}
use Rattle.sim_flat_scope.specs.Faults.{earliest}
use Rattle.sim_flat_scope.specs.Scopes.{means}
use Rattle.sim_flat_check.specs.Statements.{branches_faults, sequence_faults}
use Rattle.sim_flat_check.proofs.statements.+statements.Given as goal

abbrev pub invariant-branches-loop-each : goal.invariant-branches-loop-each
invariant-branches-loop-each l =
    earliest l.first (branches_faults (means l.inner l.outer) (drop l.each-index l.branches))
    ≡ earliest l.fn.first (branches_faults (means l.inner l.outer) l.branches)

abbrev pub invariant-sequence-loop-each : goal.invariant-sequence-loop-each
invariant-sequence-loop-each l =
    earliest l.first (sequence_faults (means l.inner l.outer) (drop l.each-index l.statements))
    ≡ earliest l.fn.first (sequence_faults (means l.inner l.outer) l.statements)
