use Rattle.std.proofs.Common.{◌≡◌, ◌≤◌, ◌-◌, ◌++◌, drop, length}
use Rattle.sim_store_simulation.specs.History.{count_leading, records_beyond}
use Rattle.sim_store_simulation.proofs.history.records_after.Given as goal

-- the records so far, and those that begin later
abbrev pub invariant-loop-start : goal.invariant-loop-start
invariant-loop-start l = record {
  all : l.records.items ++ records_beyond l.times l.place (drop l.start l.entries) ≡ records_beyond l.times l.fn.before (drop l.from l.entries);
  begins : count_leading (drop l.start l.entries) ≡ 0;
  within : l.start ≤ length l.entries;
  times : l.place.times ≤ l.start;
  delta : l.place.delta ≤ l.start;
}

abbrev pub decreases-loop-start : goal.decreases-loop-start
decreases-loop-start l = length l.entries - l.start
