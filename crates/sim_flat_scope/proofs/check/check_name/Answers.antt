use Rattle.std.proofs.Common.{arith}
use Rattle.sim_flat_scope.proofs.Faults.{of_both}
use Rattle.sim_flat_scope.proofs.check.check_name.Goals as goal

pub returns-in_err-declare-clause-faults : goal.returns-in_err-declare-clause-faults
returns-in_err-declare-clause-faults c = grind (arith, of_both)

pub returns-clause-faults : goal.returns-clause-faults
returns-clause-faults c = grind (arith, of_both)
