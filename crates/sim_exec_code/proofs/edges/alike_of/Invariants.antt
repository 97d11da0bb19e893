use Rattle.std.proofs.Common.{◌≡◌, length}
use Rattle.sim_exec_code.specs.Codes.{AreAlike}
use Rattle.sim_exec_code.proofs.edges.alike_of.Given as goal

-- the processes so far
abbrev pub invariant-loop-number : goal.invariant-loop-number
invariant-loop-number l = (length l.alike.items ≡ l.number) × AreAlike l.edges l.alike.items
