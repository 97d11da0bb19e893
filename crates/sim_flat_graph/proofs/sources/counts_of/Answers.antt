use Rattle.std.proofs.Common.{List, ap, ◌∙◌}
use Rattle.sim_flat_blocks.specs.declared.parts.BlockProcess.{BlockProcess}
use Rattle.sim_flat_blocks.specs.declared.parts.Instance.{Instance}
use Rattle.sim_flat_blocks.specs.Blocks.{targets_of}
use Rattle.sim_flat_graph.specs.Sources.{all_noted, targets_of_instances}
use Rattle.sim_flat_graph.proofs.Counted.{counted, counted_length}
use Rattle.sim_flat_graph.proofs.sources.counts_of.Goals as goal

pub returns-clause-length : goal.returns-clause-length
returns-clause-length c =
    let first = c.in_ok-counts.counts.items in
    let drivers = c.note_drivers.new.counts.items in
    counted_length c.args.blocks.now c.args.block.now first drivers c.note_instances.new.counts.items c.in_ok-counts.ensures.length
    (c.note_drivers.ensures ∙ ap (λ (ts : List BlockProcess). all_noted first (targets_of ts)) c.as_slice.ensures)
    (c.note_instances.ensures ∙ ap (λ (is : List Instance). all_noted drivers (targets_of_instances c.args.blocks.now is)) c.as_slice-2.ensures)

pub returns-clause-counts : goal.returns-clause-counts
returns-clause-counts c =
    let first = c.in_ok-counts.counts.items in
    let drivers = c.note_drivers.new.counts.items in
    counted c.args.blocks.now c.args.block.now first drivers c.note_instances.new.counts.items c.in_ok-counts.ensures.length c.in_ok-counts.ensures.none
    (c.note_drivers.ensures ∙ ap (λ (ts : List BlockProcess). all_noted first (targets_of ts)) c.as_slice.ensures)
    (c.note_instances.ensures ∙ ap (λ (is : List Instance). all_noted drivers (targets_of_instances c.args.blocks.now is)) c.as_slice-2.ensures)
