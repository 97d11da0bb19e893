use Rattle.std.proofs.Common.{ℕ, ◌≡◌, ◌<◌, ◌≤◌, ◌-◌, None, length, true, false}
use Rattle.sim_containers.specs.Numbers.{is_in}
use Rattle.sim_containers.specs.Times.{time_of}
use Rattle.sim_containers.proofs.times.clear_unlisted.Given as goal

abbrev pub invariant-loop-driver : goal.invariant-loop-driver
invariant-loop-driver l = record {
  len : length l.times.items ≡ length l.initial.times.items;
  within : l.from ≤ length l.times.items;
  taken : (d : ℕ) → d < l.from → is_in l.taken d ≡ true → time_of l.times.items d ≡ None;
  others : (d : ℕ) → d < l.from → is_in l.taken d ≡ false → time_of l.times.items d ≡ time_of l.initial.times.items d;
  rest : (d : ℕ) → l.from ≤ d → time_of l.times.items d ≡ time_of l.initial.times.items d;
}

abbrev pub decreases-loop-driver : goal.decreases-loop-driver
decreases-loop-driver l = length l.times.items - l.from
