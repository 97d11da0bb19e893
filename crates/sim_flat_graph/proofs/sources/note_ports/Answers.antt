use Rattle.sim_flat_graph.specs.Sources.{all_noted, targets_of_ports}
use Rattle.std.proofs.Common.{arith}
use Rattle.std.proofs.lemmas.Grind.{common_steps}
use Rattle.sim_flat_graph.proofs.Noted.{noted_both}
use Rattle.sim_flat_graph.proofs.sources.note_ports.Goals as goal

pub loop-at-preserved : goal.loop-at-preserved
unfolding all_noted targets_of_ports
loop-at-preserved c = grind (arith, common_steps, noted_both)

pub loop-at-init : goal.loop-at-init
unfolding all_noted targets_of_ports
loop-at-init c = grind (arith, common_steps, noted_both)

pub returns : goal.returns
unfolding all_noted targets_of_ports
returns c = grind (arith, common_steps, noted_both)

pub get-requires : goal.get-requires
unfolding all_noted targets_of_ports
get-requires c = grind (arith, common_steps, noted_both)

pub note_port-requires : goal.note_port-requires
unfolding all_noted targets_of_ports
note_port-requires c = grind (arith, common_steps, noted_both)
