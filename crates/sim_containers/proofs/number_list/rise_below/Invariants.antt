use Rattle.std.proofs.Common.{length}
use Rattle.sim_containers.specs.Numbers.{RiseWithin}
use Rattle.sim_containers.proofs.number_list.rise_below.Given as goal

abbrev pub invariant-loop-numbers : goal.invariant-loop-numbers
invariant-loop-numbers l = record { rising : RiseWithin l.least l.bound l.numbers → RiseWithin 0 l.bound l.initial.numbers }

abbrev pub decreases-loop-numbers : goal.decreases-loop-numbers
decreases-loop-numbers l = length l.numbers
