use Rattle.std.proofs.Common.{ap}
use Rattle.sim_flat_blocks.specs.Links.{or_open}
use Rattle.sim_flat_blocks.proofs.links.other.Goals as goal

pub returns-in-Some : goal.returns-in-Some
returns-in-Some c = ap or_open c.in-Some.ensures.value

pub returns-in-None : goal.returns-in-None
returns-in-None c = ap or_open c.in-None.ensures.value
