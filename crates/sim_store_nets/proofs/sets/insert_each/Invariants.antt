use Rattle.std.proofs.Common.{ℕ, ◌≡◌, ◌<◌, ◌||◌, length, take}
use Rattle.sim_containers.specs.Numbers.{is_in}
use Rattle.sim_standard.specs.Orders.{is_among}
use Rattle.sim_store_nets.proofs.sets.insert_each.Given as goal

abbrev pub invariant-loop-number : goal.invariant-loop-number
invariant-loop-number l = record {
  sized : length l.set ≡ length l.initial.set;
  members : (n : ℕ) → n < length l.initial.set → is_in l.set n ≡ (is_among (take l.number-index l.numbers) n || is_in l.initial.set n);
}
