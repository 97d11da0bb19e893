use Rattle.std.proofs.Common.{◌≡◌, drop}
use Rattle.sim_flat_scope.specs.Faults.{earliest}
use Rattle.sim_flat_scope.specs.Scopes.{means}
use Rattle.sim_flat_check.specs.Waveforms.{values_faults}
use Rattle.sim_flat_check.proofs.waveforms.values.Given as goal

abbrev pub invariant-loop-element : goal.invariant-loop-element
invariant-loop-element l =
    earliest l.first (values_faults (means l.inner l.outer) l.target (drop l.element-index l.waveform))
    ≡ earliest l.fn.first (values_faults (means l.inner l.outer) l.target l.waveform)
