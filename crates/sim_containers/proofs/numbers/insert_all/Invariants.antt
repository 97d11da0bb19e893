use Rattle.std.proofs.Common.{ℕ, ◌≡◌, ◌<◌, length, true}
use Rattle.sim_containers.specs.Numbers.{is_in}
use Rattle.sim_containers.proofs.numbers.insert_all.Given as goal

abbrev pub invariant-loop-number : goal.invariant-loop-number
invariant-loop-number l = record {
  len : length l.set ≡ length l.initial.set;
  all : (k : ℕ) → k < l.number → is_in l.set k ≡ true;
}
