use Rattle.std.proofs.Common.{rules}
use Rattle.sim_text.proofs.text.fault_of.Goals as goal

pub returns-in-Syntax : goal.returns-in-Syntax
returns-in-Syntax c = search rules
