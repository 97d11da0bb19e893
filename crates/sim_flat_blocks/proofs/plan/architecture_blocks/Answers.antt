use Rattle.std.proofs.Common.{ap, map, ◌∙◌}
use Rattle.sim_flat_blocks.specs.Plans.{block_ports, shared_ports}
use Rattle.sim_flat_blocks.proofs.plan.architecture_blocks.Goals as goal

pub each_block-requires-clause-shared : goal.each_block-requires-clause-shared
unfolding shared_ports
each_block-requires-clause-shared c = c.as_slice.ensures.value ∙ (c.in_ok-shared.ensures ∙ ap (map block_ports) c.ports.ensures)
