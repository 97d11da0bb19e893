use Rattle.sim_flat_graph.specs.Search.{all_noted}
use Rattle.std.proofs.Common.{arith}
use Rattle.std.proofs.lemmas.Grind.{common_steps}
use Rattle.sim_flat_graph.proofs.search.note_all.Goals as goal

pub loop-n-preserved : goal.loop-n-preserved
unfolding all_noted
loop-n-preserved c = grind (arith, common_steps)

pub returns : goal.returns
unfolding all_noted
returns c = grind (arith, common_steps)
