use Rattle.std.proofs.Common.{rules}
use Rattle.sim_logic.proofs.logic.Logic.to_x01.Goals as goal

pub returns : goal.returns
returns c = search rules
