use Rattle.std.proofs.Common.{ℕ, ◌≡◌, ◌<◌, ◌≤◌, ◌-◌, ◌&&◌, ◌||◌, not, length}
use Rattle.sim_containers.specs.Numbers.{is_in}
use Rattle.sim_store_simulation.proofs.waiting.set_aside.Given as goal

-- those so far are divided, and the others are as they were
abbrev pub invariant-loop-number : goal.invariant-loop-number
invariant-loop-number l = record {
  sized : length l.set ≡ length l.fn.set;
  waiting_sized : length l.waiting ≡ length l.fn.waiting;
  left : (p : ℕ) → p < l.from → is_in l.set p ≡ (is_in l.fn.set p && not (is_in l.postponed p));
  moved : (p : ℕ) → p < l.from → is_in l.waiting p ≡ (is_in l.fn.waiting p || (is_in l.fn.set p && is_in l.postponed p));
  members : (p : ℕ) → l.from ≤ p → is_in l.set p ≡ is_in l.fn.set p;
  waited : (p : ℕ) → l.from ≤ p → is_in l.waiting p ≡ is_in l.fn.waiting p;
}

abbrev pub decreases-loop-number : goal.decreases-loop-number
decreases-loop-number l = length l.fn.set - l.from
