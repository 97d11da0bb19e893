use Rattle.std.proofs.Common.{rules}
use Rattle.sim_flat_design.proofs.pieces.joined.Goals as goal

pub returns : goal.returns
returns c = search rules
