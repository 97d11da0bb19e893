use Rattle.std.proofs.Common.{rules, tests}
use Rattle.sim_flat_scope.proofs.Faults.{of_both}
use Rattle.sim_flat_scope.specs.DeclarationFaults.{architecture_faults}
use Rattle.sim_flat_scope.proofs.check.check_architecture.Goals as goal

pub returns : goal.returns
unfolding architecture_faults
returns c = search (rules, tests, of_both)
