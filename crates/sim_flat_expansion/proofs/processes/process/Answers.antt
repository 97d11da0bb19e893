use Rattle.std.proofs.Common.{refl}
use Rattle.sim_flat_design.specs.Processes.{nets_of}
use Rattle.sim_flat_expansion.proofs.Made.{is_process}
use Rattle.sim_flat_expansion.proofs.processes.process.Goals as goal

pub new-requires : goal.new-requires
new-requires c =
    is_process c.in_ok-sensitivity.sensitivity (nets_of c.as_slice.result.now c.args.block_process.now.sensitivity) c.in_ok-sensitivity.reads
    c.as_slice.result.now c.args.block_process.now.reads c.args.object_nets.now c.in_ok-try_copy.field-0 c.args.block_process.now.reads
    c.in_ok-try_copy-2.field-0
    c.args.block_process.now.body c.args.first_driver c.args.block_process.now.postponed
    c.in_ok-sensitivity.ensures.sensitivity c.in_ok-sensitivity.ensures.reads c.as_slice.ensures refl
    c.in_ok-try_copy.ensures c.in_ok-try_copy-2.ensures c.requires.placed c.requires.reads
