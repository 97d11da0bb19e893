use Rattle.std.proofs.Common.{◌≤◌, ◌<◌, ◌-◌, length, slice_index_or}
use Rattle.sim_containers.proofs.numbers.place_from.Given as goal

abbrev pub invariant-loop-low : goal.invariant-loop-low
invariant-loop-low l = record {
  order : l.low ≤ l.high;
  within : l.high ≤ length l.list;
  after : l.high < length l.list → l.from ≤ slice_index_or l.list l.high 0;
  before : 0 < l.low → slice_index_or l.list (l.low - 1) 0 < l.from;
}

abbrev pub decreases-loop-low : goal.decreases-loop-low
decreases-loop-low l = l.high - l.low
