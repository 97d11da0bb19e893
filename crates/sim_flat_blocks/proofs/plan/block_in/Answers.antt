use Rattle.sim_flat_blocks.specs.Plans.{ports_named}
use Rattle.sim_flat_blocks.proofs.KnownBlocks.{block_known}
use Rattle.sim_flat_blocks.proofs.plan.block_in.Goals as goal

pub returns-clause-known : goal.returns-clause-known
returns-clause-known c =
    block_known c.args.library.now c.args.region.now (ports_named c.args.library.now c.args.architecture.now.entity.text)
    c.args.architecture.now.declarations c.as_slice-statements.result.now c.args.objects _ c.requires.objects
    c.in_ok-ports.ensures.ports c.in_ok-ports.ensures.signals c.in_ok-instances.ensures c.requires.below c.in_ok-processes.ensures.fits
