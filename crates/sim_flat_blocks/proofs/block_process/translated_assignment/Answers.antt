use Rattle.std.proofs.Common.{[]}
use Rattle.sim_flat_scope.specs.Scopes.{means}
use Rattle.sim_flat_bodies.specs.Within.{AreWithin}
use Rattle.sim_flat_blocks.proofs.RegionLaws.{concurrent_within}
use Rattle.sim_flat_blocks.proofs.TargetsBelow.{target_there}
use Rattle.sim_flat_blocks.proofs.block_process.translated_assignment.Goals as goal

pub assignment_parts-made-requires : goal.assignment_parts-made-requires
assignment_parts-made-requires c =
    record { within = rw c.new-region.ensures (concurrent_within c.args.objects c.args.architecture.now c.requires) }

pub block_process-requires-clause-targets : goal.block_process-requires-clause-targets
block_process-requires-clause-targets c =
    let within : AreWithin (means c.new-region.result c.args.architecture.now) c.args.objects [] =
    rw c.new-region.ensures (concurrent_within c.args.objects c.args.architecture.now c.requires) in
    rw c.in_ok-listed.ensures.targets
    (target_there (means c.new-region.result c.args.architecture.now) c.args.objects [] within c.args.assignment.now.target.text)
