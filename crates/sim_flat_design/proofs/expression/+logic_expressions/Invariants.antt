-- The expressions so far are the same.
use Rattle.std.proofs.Common.{◌≡◌, take, length}
use Rattle.sim_flat_design.proofs.expression.+logic_expressions.Given as goal

abbrev pub invariant-same_logic_expressions-loop-i : goal.invariant-same_logic_expressions-loop-i
invariant-same_logic_expressions-loop-i l = (length l.expressions ≡ length l.others) × (take l.i l.expressions ≡ take l.i l.others)
