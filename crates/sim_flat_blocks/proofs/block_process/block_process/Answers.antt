use Rattle.std.proofs.Common.{length}
use Rattle.sim_flat_blocks.proofs.FittingBlocks.{body_fits, block_process_fits}
use Rattle.sim_flat_blocks.proofs.block_process.block_process.Goals as goal

pub new-requires : goal.new-requires
new-requires c =
    rw c.as_slice-drivers.ensures
    (body_fits c.args.objects (length c.args.targets.now) c.args.variables c.args.statements c.requires.fits)

pub returns-clause-blocks : goal.returns-clause-blocks
returns-clause-blocks c =
    rw (
      c.in_ok-sensitivity_and_reads.ensures.sensitivity,
      c.in_ok-sensitivity_and_reads.ensures.reads,
      c.as_slice.ensures,
      c.in_ok-body.ensures,
      c.as_slice-drivers.ensures,
      c.in_ok-targets.ensures,
      c.as_slice-2.ensures,
    )
    (block_process_fits c.args.objects c.args.postponed c.args.listed c.args.targets.now c.args.variables c.args.statements c.requires.fits c.requires.targets
    c.requires.listed)
