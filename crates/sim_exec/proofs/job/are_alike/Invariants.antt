use Rattle.std.proofs.Common.{◌≡◌, map, take}
use Rattle.sim_exec_statements.specs.Ready.{holds_bit}
use Rattle.sim_exec.proofs.job.are_alike.Given as goal

-- the variables so far are alike
abbrev pub invariant-loop-i : goal.invariant-loop-i
invariant-loop-i l = map holds_bit (take l.i l.variables) ≡ map holds_bit (take l.i l.others)
