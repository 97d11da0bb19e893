use Rattle.sim_flat_scope.specs.Scopes.{means}
use Rattle.sim_flat_bodies.specs.Within.{AreWithin}
use Rattle.sim_flat_blocks.proofs.RegionLaws.{process_within}
use Rattle.sim_flat_blocks.proofs.TargetsBelow.{listed_there, targets_there}
use Rattle.sim_flat_blocks.proofs.block_process.translated_process.Goals as goal

pub process_parts-made-requires : goal.process_parts-made-requires
process_parts-made-requires c =
    record {
      within = rw (c.as_slice.ensures, c.in_ok-variables.ensures, c.in_ok-region.ensures)
          (process_within c.args.objects c.args.architecture.now c.args.process.now c.requires);
    }

pub block_process-requires-clause-targets : goal.block_process-requires-clause-targets
block_process-requires-clause-targets c =
    let within : AreWithin (means c.in_ok-region.region c.args.architecture.now) c.args.objects c.as_slice.result.now =
    rw (c.as_slice.ensures, c.in_ok-variables.ensures, c.in_ok-region.ensures)
    (process_within c.args.objects c.args.architecture.now c.args.process.now c.requires) in
    rw c.in_ok-listed.ensures.targets
    (targets_there (means c.in_ok-region.region c.args.architecture.now) c.args.objects c.as_slice.result.now within c.args.process.now.statements)

pub block_process-requires-clause-listed : goal.block_process-requires-clause-listed
block_process-requires-clause-listed c =
    let within : AreWithin (means c.in_ok-region.region c.args.architecture.now) c.args.objects c.as_slice.result.now =
    rw (c.as_slice.ensures, c.in_ok-variables.ensures, c.in_ok-region.ensures)
    (process_within c.args.objects c.args.architecture.now c.args.process.now c.requires) in
    rw c.in_ok-listed.ensures.listed
    (listed_there (means c.in_ok-region.region c.args.architecture.now) c.args.objects c.as_slice.result.now within c.args.process.now.sensitivity)
