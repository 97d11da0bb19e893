use Rattle.std.proofs.Common.{ℕ, ◌≡◌, ◌≤◌, ◌-◌, None, true, false, length, map}
use Rattle.sim_containers.specs.Numbers.{is_in}
use Rattle.sim_containers.specs.Times.{time_of}
use Rattle.sim_containers.specs.RowArray.{joined}
use Rattle.sim_standard.specs.State.{driver_at}
use Rattle.sim_store_nets.proofs.Walks.{Walked}
use Rattle.sim_store_share.proofs.Taken.{IsRest, IsTaken}
use Rattle.sim_store_share.proofs.taking.take_each.Given as goal

abbrev pub invariant-loop-number : goal.invariant-loop-number
invariant-loop-number l = record {
  rows : map length l.drivers ≡ map length l.initial.drivers;
  long : length (joined l.drivers) ≡ length (joined l.initial.drivers);
  sized : length l.times.queue ≡ length l.initial.times.queue;
  within : l.from ≤ length (joined l.initial.drivers);
  rest : (d : ℕ) → l.from ≤ d → driver_at (joined l.drivers) d ≡ driver_at (joined l.initial.drivers) d;
  unset : (d : ℕ) → l.from ≤ d → is_in l.due d ≡ true → is_in l.times.stale d ≡ false → time_of l.times.queue d ≡ None;
  noted : IsRest l.first (length (joined l.initial.drivers)) l.initial.lists l.lists;
  walked : Walked l.due l.from (IsTaken l.time l.first (joined l.initial.drivers) (joined l.drivers) l.times l.lists);
}

abbrev pub decreases-loop-number : goal.decreases-loop-number
decreases-loop-number l = length (joined l.initial.drivers) - l.from
