-- The statements and branches so far are the same.
use Rattle.std.proofs.Common.{◌≡◌, take, length}
use Rattle.sim_flat_design.proofs.statement.+nested_statements.Given as goal

abbrev pub invariant-same_statements-loop-i : goal.invariant-same_statements-loop-i
invariant-same_statements-loop-i l = (length l.statements ≡ length l.others) × (take l.i l.statements ≡ take l.i l.others)

abbrev pub invariant-same_branches-loop-i : goal.invariant-same_branches-loop-i
invariant-same_branches-loop-i l = (length l.branches ≡ length l.others) × (take l.i l.branches ≡ take l.i l.others)
