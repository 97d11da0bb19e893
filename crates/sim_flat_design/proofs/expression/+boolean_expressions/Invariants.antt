-- The expressions so far are the same.
use Rattle.std.proofs.Common.{◌≡◌, take, length}
use Rattle.sim_flat_design.proofs.expression.+boolean_expressions.Given as goal

abbrev pub invariant-same_boolean_expressions-loop-i : goal.invariant-same_boolean_expressions-loop-i
invariant-same_boolean_expressions-loop-i l = (length l.expressions ≡ length l.others) × (take l.i l.expressions ≡ take l.i l.others)
