use Rattle.sim_flat_graph.specs.Sources.{all_noted}
use Rattle.std.proofs.Common.{arith}
use Rattle.std.proofs.lemmas.Grind.{common_steps}
use Rattle.sim_flat_graph.proofs.sources.note_all.Goals as goal

pub loop-place-preserved : goal.loop-place-preserved
unfolding all_noted
loop-place-preserved c = grind (arith, common_steps)

pub returns : goal.returns
unfolding all_noted
returns c = grind (arith, common_steps)
