use Rattle.std.proofs.Common.{rules}
use Rattle.sim_exec_statements.proofs.values.condition.Goals as goal

pub returns-in-One : goal.returns-in-One
returns-in-One c = search rules

pub returns-in_default : goal.returns-in_default
returns-in_default c = search rules
