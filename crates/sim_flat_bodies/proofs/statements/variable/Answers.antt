use Rattle.std.proofs.Common.{arith}
use Rattle.std.proofs.lemmas.Grind.{common_steps}
use Rattle.sim_flat_bodies.specs.Statements.{variable_of}
use Rattle.sim_flat_bodies.specs.Within.{is_within}
use Rattle.sim_flat_design.proofs.Fitting.{statements_fit}
use Rattle.sim_flat_bodies.proofs.statements.variable.Goals as goal

pub returns-in_ok-value-in-Some-Variable-default-Some-Logic-clause-fits : goal.returns-in_ok-value-in-Some-Variable-default-Some-Logic-clause-fits
unfolding variable_of is_within
returns-in_ok-value-in-Some-Variable-default-Some-Logic-clause-fits c = grind (arith, common_steps, statements_fit)

pub returns-in_ok-value-in-Some-Variable-default-Some-Boolean-clause-fits : goal.returns-in_ok-value-in-Some-Variable-default-Some-Boolean-clause-fits
unfolding variable_of is_within
returns-in_ok-value-in-Some-Variable-default-Some-Boolean-clause-fits c = grind (arith, common_steps, statements_fit)

pub returns-in_default-clause-fits : goal.returns-in_default-clause-fits
unfolding variable_of is_within
returns-in_default-clause-fits c = grind (arith, common_steps, statements_fit)
