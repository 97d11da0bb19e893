use Rattle.std.proofs.Common.{ℕ, ◌≡◌, length}
use Rattle.sim_store_nets.specs.Nets.{value_at}
use Rattle.sim_store_nets.proofs.Walks.{Walked, bound_at}
use Rattle.sim_store_nets.proofs.nets.end_events.Given as goal

abbrev pub invariant-loop-place : goal.invariant-loop-place
invariant-loop-place l = record {
  long : length l.values_before ≡ length l.values;
  walked : Walked l.touched (bound_at l.nets l.place) (λ (n : ℕ). value_at l.values_before n ≡ value_at l.values n);
}
