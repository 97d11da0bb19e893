use Rattle.std.proofs.Common.{ℕ, ◌≡◌, ◌<◌, ◌≤◌, ◌++◌, length, map, vec_capacity}
use Rattle.sim_standard.specs.Records.{changes_from}
use Rattle.sim_store_nets.specs.Lists.{net_from}
use Rattle.sim_store_nets.specs.Nets.{value_at, views_of}
use Rattle.sim_store_nets.proofs.Walks.{Walked, bound_at}
use Rattle.sim_store_state.specs.Counting.{AreCounted}
use Rattle.sim_store_state.specs.Log.{changed}
use Rattle.sim_store_state.proofs.log.append_changes.Given as goal

-- the nets passed by now have the values of their sources, the others have no event, and the changes by now are appended and counted
abbrev pub invariant-loop-place : goal.invariant-loop-place
invariant-loop-place l = record {
  before : l.values.before ≡ l.initial.values.before;
  long : length l.values.present ≡ length l.initial.values.present;
  walked : Walked l.lists.touched (bound_at l.nets l.place) (λ (n : ℕ). n < length l.initial.values.present → value_at l.values.present n ≡ net_from l.lists n);
  none : (n : ℕ) → bound_at l.nets l.place ≤ n → value_at l.values.present n ≡ value_at l.values.before n;
  few : length (changes_from 0 (views_of l.values.present l.values.before)) ≤ bound_at l.nets l.place;
  capacity : vec_capacity l.entries ≡ vec_capacity l.initial.entries;
  appended : l.entries.items ≡ l.initial.entries.items ++ map changed (changes_from 0 (views_of l.values.present l.values.before));
  counted : AreCounted (changes_from 0 (views_of l.values.present l.values.before)) l.initial.totals l.totals;
}
