use Rattle.std.proofs.Common.{arith}
use Rattle.std.proofs.lemmas.Grind.{common_steps}
use Rattle.sim_flat_design.proofs.Fitting.{booleans_fit}
use Rattle.sim_flat_bodies.proofs.expressions.logic_comparison.Goals as goal

pub returns-clause-fits : goal.returns-clause-fits
returns-clause-fits c = grind (arith, common_steps, booleans_fit)
