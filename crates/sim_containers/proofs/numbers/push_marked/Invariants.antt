use Rattle.std.proofs.Common.{◌≡◌, ◌≤◌, ◌-◌, length}
use Rattle.sim_containers.specs.Numbers.{is_in}
use Rattle.sim_containers.proofs.Ranges.{below}
use Rattle.sim_containers.proofs.numbers.push_marked.Given as goal

abbrev pub invariant-loop-number : goal.invariant-loop-number
invariant-loop-number l = record {
  items : l.list.items ≡ below (is_in l.bits) l.from;
  capacity : l.list.cap ≡ l.initial.list.cap;
  within : l.from ≤ length l.bits;
}

abbrev pub decreases-loop-number : goal.decreases-loop-number
decreases-loop-number l = length l.bits - l.from
