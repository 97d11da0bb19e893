use Rattle.std.proofs.Common.{ℕ, ◌≡◌, ◌≤◌, ◌<◌, ◌-◌, length, false}
use Rattle.sim_containers.specs.Numbers.{is_beside}
use Rattle.sim_containers.proofs.number_list.find_beside.Given as goal

abbrev pub invariant-loop-number : goal.invariant-loop-number
invariant-loop-number l = record {
  further : l.fn.from ≤ l.least;
  before : (m : ℕ) → l.fn.from ≤ m → m < l.least → is_beside l.list l.others m ≡ false;
}

abbrev pub decreases-loop-number : goal.decreases-loop-number
decreases-loop-number l = length l.list - l.least
