use Rattle.std.proofs.Common.{arith}
use Rattle.std.proofs.lemmas.Grind.{common_steps}
use Rattle.sim_flat_blocks.specs.declared.parts.Instance.{Instance}
use Rattle.sim_flat_blocks.specs.Blocks.{block_of}
use Rattle.sim_flat_graph.specs.Sources.{all_noted, targets_of_ports, targets_of_instances}
use Rattle.sim_flat_graph.proofs.Noted.{one_more, instances_open, noted_both}
use Rattle.sim_flat_graph.proofs.sources.note_instances.Goals as goal

pub loop-instance-preserved : goal.loop-instance-preserved
loop-instance-preserved c =
    let blocks = c.args.blocks.now in
    one_more (targets_of_instances blocks) (λ (i : Instance). targets_of_ports i.links 0 (block_of blocks i).ports) (instances_open blocks)
    c.args.instances.now c.loop-instance.instance-index c.instance-item.result c.loop-instance-test.true c.instance-item.is
    c.loop-instance.counts.items c.note_instance.new.counts.items (all_noted c.args.counts.now.items (targets_of_instances blocks c.args.instances.now))
    c.note_instance.ensures c.loop-instance.invariant

pub loop-instance-init : goal.loop-instance-init
unfolding all_noted targets_of_instances
loop-instance-init c = grind (arith, common_steps, noted_both)

pub returns : goal.returns
unfolding all_noted targets_of_instances
returns c = grind (arith, common_steps, noted_both)

pub note_instance-requires : goal.note_instance-requires
unfolding all_noted targets_of_instances
note_instance-requires c = grind (arith, common_steps, noted_both)
