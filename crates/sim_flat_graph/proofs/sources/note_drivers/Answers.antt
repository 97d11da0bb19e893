use Rattle.std.proofs.Common.{ap, ◌∙◌, arith}
use Rattle.std.proofs.lemmas.Grind.{common_steps}
use Rattle.sim_flat_blocks.specs.declared.parts.BlockProcess.{BlockProcess}
use Rattle.sim_flat_blocks.specs.Blocks.{targets_of}
use Rattle.sim_flat_graph.specs.Sources.{all_noted}
use Rattle.sim_flat_graph.proofs.Noted.{one_more, targets_open, noted_both}
use Rattle.sim_flat_graph.proofs.sources.note_drivers.Goals as goal

pub loop-process-preserved : goal.loop-process-preserved
loop-process-preserved c =
    one_more targets_of (λ (t : BlockProcess). t.targets) targets_open c.args.processes.now c.loop-process.process-index c.process-item.result
    c.loop-process-test.true c.process-item.is c.loop-process.counts.items c.note_all.new.counts.items
    (all_noted c.args.counts.now.items (targets_of c.args.processes.now))
    (c.note_all.ensures ∙ ap (all_noted c.loop-process.counts.items) c.as_slice.ensures) c.loop-process.invariant

pub loop-process-init : goal.loop-process-init
unfolding all_noted targets_of
loop-process-init c = grind (arith, common_steps, noted_both)

pub returns : goal.returns
unfolding all_noted targets_of
returns c = grind (arith, common_steps, noted_both)

pub note_all-requires : goal.note_all-requires
unfolding all_noted targets_of
note_all-requires c = grind (arith, common_steps, noted_both)
