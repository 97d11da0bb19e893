use Rattle.std.proofs.Common.{rules}
use Rattle.sim_flat.proofs.top.top_of.Goals as goal

pub returns-in_default-entity : goal.returns-in_default-entity
returns-in_default-entity c = search rules

pub returns-in-None : goal.returns-in-None
returns-in-None c = search rules

pub returns : goal.returns
returns c = search rules
