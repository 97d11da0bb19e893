use Rattle.std.proofs.Common.{◌≡◌, ◌≤◌, take, length}
use Rattle.sim_store_state.specs.Log.{count_times}
use Rattle.sim_store_simulation.specs.History.{count_records}
use Rattle.sim_store_simulation.proofs.history.entries_before.Given as goal

-- the times and the records that begin before the place
abbrev pub invariant-loop-left : goal.invariant-loop-left
invariant-loop-left l = record {
  within : l.place ≤ length l.entries;
  times : count_times (take l.place l.entries) ≡ l.passed;
  records : count_records (take l.place l.entries) ≡ l.left;
  number : l.fn.number ≤ l.left;
}

abbrev pub decreases-loop-left : goal.decreases-loop-left
decreases-loop-left l = l.place
