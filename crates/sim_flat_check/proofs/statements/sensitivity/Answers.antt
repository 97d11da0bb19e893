use Rattle.std.proofs.Common.{rules, tests}
use Rattle.sim_flat_scope.specs.Faults.{earliest}
use Rattle.sim_flat_check.specs.Statements.{sensitivity_faults}
use Rattle.sim_flat_check.proofs.statements.sensitivity.Goals as goal

pub returns-in-Names : goal.returns-in-Names
unfolding sensitivity_faults earliest
returns-in-Names c = search (rules, tests)
