use Rattle.std.proofs.Common.{◌≡◌, ◌≤◌, ◌+◌, take, length}
use Rattle.sim_store_state.specs.Log.{delta_after}
use Rattle.sim_store_simulation.proofs.history.last_delta.Given as goal

-- no time begins in the entries from the place on, but that many delta cycles
abbrev pub invariant-loop-place : goal.invariant-loop-place
invariant-loop-place l = record {
  counted : delta_after 0 l.entries ≡ l.delta + delta_after 0 (take l.place l.entries);
  few : l.delta + l.place ≤ length l.entries;
}
