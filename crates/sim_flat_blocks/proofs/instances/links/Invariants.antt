use Rattle.std.proofs.Common.{◌≡◌}
use Rattle.sim_flat_blocks.specs.Plans.{seen}
use Rattle.sim_flat_blocks.proofs.PutLinks.{links_from}
use Rattle.sim_flat_blocks.proofs.instances.links.Given as goal

-- the first name of the counter is the position of the next association
abbrev pub invariant-loop-at : goal.invariant-loop-at
invariant-loop-at l = l.links ≡ links_from (seen l.region) l.ports l.associations l.at
