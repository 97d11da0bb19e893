use Rattle.sim_flat_graph.specs.Sources.{places_of}
use Rattle.sim_flat_graph.specs.Least.{least_of}
use Rattle.std.proofs.Common.{arith}
use Rattle.std.proofs.lemmas.Grind.{common_steps}
use Rattle.sim_flat_graph.proofs.Noted.{least_both}
use Rattle.sim_flat_graph.proofs.sources.least_signal.Goals as goal

pub loop-at-preserved : goal.loop-at-preserved
unfolding places_of least_of
loop-at-preserved c = grind (arith, common_steps, least_both)

pub least_with-least-requires : goal.least_with-least-requires
unfolding places_of least_of
least_with-least-requires c = grind (arith, common_steps, least_both)

pub returns : goal.returns
unfolding places_of least_of
returns c = grind (arith, common_steps, least_both)
