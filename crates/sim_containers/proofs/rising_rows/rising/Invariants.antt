use Rattle.std.proofs.Common.{◌≡◌, length}
use Rattle.sim_containers.specs.Numbers.{AreRising}
use Rattle.sim_containers.proofs.rising_rows.rising.Given as goal

abbrev pub invariant-loop-number : goal.invariant-loop-number
invariant-loop-number l = record { long : length l.rises.items ≡ l.number; are : AreRising l.rows l.bound l.rises.items }
