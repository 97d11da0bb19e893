use Rattle.std.proofs.Common.{◌≡◌, ◌≤◌, ℕ, drop, [], slice_index_or}
use Rattle.sim_flat_expansion.specs.Expanding as spec
use Rattle.sim_flat_expansion.proofs.flat_sources.signals.Given as goal

abbrev pub invariant-loop-signal : goal.invariant-loop-signal
invariant-loop-signal l = record {
  object_expanded : spec.signals_expanded l.prefix l.fn.own l.at (drop l.signal-index l.signals) l.nets
      ≡ spec.signals_expanded l.prefix l.fn.own l.first l.signals l.fn.nets;
  later : (n : ℕ) → l.at ≤ n → slice_index_or l.own n [] ≡ slice_index_or l.fn.own n [];
}
