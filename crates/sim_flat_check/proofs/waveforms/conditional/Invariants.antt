use Rattle.std.proofs.Common.{◌≡◌, drop}
use Rattle.sim_flat_scope.specs.Faults.{earliest}
use Rattle.sim_flat_scope.specs.Scopes.{means}
use Rattle.sim_flat_check.specs.Waveforms.{conditional_faults}
use Rattle.sim_flat_check.proofs.waveforms.conditional.Given as goal

abbrev pub invariant-loop-each : goal.invariant-loop-each
invariant-loop-each l =
    earliest l.first (conditional_faults (means l.inner l.outer) l.mechanism l.target (drop l.each-index l.alternatives))
    ≡ earliest l.fn.first (conditional_faults (means l.inner l.outer) l.mechanism l.target l.alternatives)
