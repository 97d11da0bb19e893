use Rattle.std.proofs.Common.{arith}
use Rattle.std.proofs.lemmas.Grind.{common_steps}
use Rattle.std.proofs.Common.{rules}
use Rattle.sim_flat_blocks.specs.Plans.{blocks_of}
use Rattle.sim_flat_blocks.proofs.KnownBlocks.{blocks_known}
use Rattle.sim_flat_blocks.proofs.plan.blocks.Goals as goal

pub returns-clause-known : goal.returns-clause-known
unfolding blocks_of
returns-clause-known c =
    blocks_known c.args.library.now c.in_ok-found.found.items c.from_vec.result c.in_ok-found.ensures.known (search rules) (search rules)

pub returns-clause-length : goal.returns-clause-length
unfolding blocks_of
returns-clause-length c = grind (arith, common_steps)
