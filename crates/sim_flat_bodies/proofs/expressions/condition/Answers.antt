use Rattle.std.proofs.Common.{rules}
use Rattle.sim_flat_bodies.specs.Expressions.{condition_of}
use Rattle.sim_flat_bodies.proofs.expressions.condition.Goals as goal

pub returns-then-not-is_boolean-clause-value : goal.returns-then-not-is_boolean-clause-value
unfolding condition_of
returns-then-not-is_boolean-clause-value c = search rules
