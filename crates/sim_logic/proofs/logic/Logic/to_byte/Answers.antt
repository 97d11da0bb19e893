use Rattle.std.proofs.Common.{rules}
use Rattle.sim_logic.proofs.logic.Logic.to_byte.Goals as goal

pub returns-in-L : goal.returns-in-L
returns-in-L c = search rules
