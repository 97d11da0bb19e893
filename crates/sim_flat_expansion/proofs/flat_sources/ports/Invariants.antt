use Rattle.std.proofs.Common.{◌≡◌, ◌≤◌, ℕ, drop, [], slice_index_or}
use Rattle.sim_flat_expansion.specs.Expanding as spec
use Rattle.sim_flat_expansion.proofs.flat_sources.ports.Given as goal

abbrev pub invariant-loop-at : goal.invariant-loop-at
invariant-loop-at l = record {
  object_expanded : spec.ports_expanded l.prefix l.links l.fn.own l.at (drop l.at l.ports) l.nets l.outer
      ≡ spec.ports_expanded l.prefix l.links l.fn.own 0 l.ports [] l.fn.outer;
  later : (n : ℕ) → l.at ≤ n → slice_index_or l.own n [] ≡ slice_index_or l.fn.own n [];
}
