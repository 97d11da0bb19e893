use Rattle.std.proofs.Common.{rules}
use Rattle.sim_logic.proofs.logic.Logic.from_byte.Goals as goal

pub returns-in-90-clause-some : goal.returns-in-90-clause-some
returns-in-90-clause-some c = search rules
