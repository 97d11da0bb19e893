use Rattle.std.proofs.Common.{rules}
use Rattle.sim_logic.proofs.resolution.resolve_two.Goals as goal

pub returns : goal.returns
returns c = search rules
