use Rattle.std.proofs.Common.{◌≡◌, drop}
use Rattle.sim_flat_scope.specs.Faults.{earliest}
use Rattle.sim_flat_scope.specs.Scopes.{means}
use Rattle.sim_flat_check.specs.Statements.{signals_read}
use Rattle.sim_flat_check.proofs.statements.signals_read.Given as goal

abbrev pub invariant-loop-name : goal.invariant-loop-name
invariant-loop-name l =
    earliest l.first (signals_read (means l.inner l.outer) (drop l.name-index l.names))
    ≡ earliest l.fn.first (signals_read (means l.inner l.outer) l.names)
