use Rattle.sim_standard.proofs.ValuesKept.{values_kept}
use Rattle.sim_standard.proofs.execution.execution_leaves_current_values_unchanged.Goals as goal

pub returns : goal.returns
returns c = values_kept
