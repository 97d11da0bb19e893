use Rattle.std.proofs.Common.{◌≡◌, ◌≤◌, ◌+◌, drop}
use Rattle.sim_logic.specs.Time.{largest_time}
use Rattle.sim_text_tree.specs.Times.{value_of}
use Rattle.sim_text_tree.proofs.Digits.{Value}
use Rattle.sim_text_tree.proofs.time.written_time.Given as goal

abbrev pub invariant-loop-digit : goal.invariant-loop-digit
invariant-loop-digit l = (l.count ≤ largest_time + 255) × (Value l.count (drop l.digit-index l.digits) ≡ value_of l.digits)
