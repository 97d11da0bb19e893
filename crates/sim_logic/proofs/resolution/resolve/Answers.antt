use Rattle.std.proofs.Common.{rules}
use Rattle.sim_logic.proofs.resolution.resolve.Goals as goal

pub returns-in-len1 : goal.returns-in-len1
returns-in-len1 c = search rules
