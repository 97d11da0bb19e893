use Rattle.sim_flat_graph.specs.Graph.{each_time}
use Rattle.std.proofs.Common.{arith}
use Rattle.std.proofs.lemmas.Grind.{common_steps}
use Rattle.sim_flat_graph.proofs.graph.note_leads.Goals as goal

pub returns-clause-rows : goal.returns-clause-rows
unfolding each_time
returns-clause-rows c = grind (arith, common_steps)

pub loop-target-preserved : goal.loop-target-preserved
unfolding each_time
loop-target-preserved c = grind (arith, common_steps)
