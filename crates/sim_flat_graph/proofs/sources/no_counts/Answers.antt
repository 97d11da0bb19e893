use Rattle.std.proofs.Common.{arith}
use Rattle.std.proofs.lemmas.Grind.{common_steps}
use Rattle.sim_flat_graph.proofs.sources.no_counts.Goals as goal

pub loop-port-preserved : goal.loop-port-preserved
loop-port-preserved c = grind (arith, common_steps)

pub loop-signal-preserved : goal.loop-signal-preserved
loop-signal-preserved c = grind (arith, common_steps)
