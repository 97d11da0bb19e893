use Rattle.std.proofs.Common.{◌≡◌, None, drop}
use Rattle.sim_flat_scope.specs.Faults.{earliest}
use Rattle.sim_flat_check.specs.Waveforms.{not_rising}
use Rattle.sim_flat_check.proofs.waveforms.rising.Given as goal

abbrev pub invariant-loop-element : goal.invariant-loop-element
invariant-loop-element l =
    earliest l.first (not_rising l.before (drop l.element-index l.waveform)) ≡ earliest l.fn.first (not_rising None l.waveform)
