use Rattle.sim_flat_graph.specs.Sources.{places_of}
use Rattle.sim_flat_graph.specs.Least.{least_of}
use Rattle.std.proofs.Common.{arith}
use Rattle.std.proofs.lemmas.Grind.{common_steps}
use Rattle.sim_flat_graph.proofs.Noted.{least_both}
use Rattle.sim_flat_graph.proofs.sources.least_port.Goals as goal

pub least_with-least-requires : goal.least_with-least-requires
unfolding places_of least_of
least_with-least-requires c = grind (arith, common_steps, least_both)

pub loop-place-preserved : goal.loop-place-preserved
unfolding places_of least_of
loop-place-preserved c = grind (arith, common_steps, least_both)

pub loop-place-init : goal.loop-place-init
unfolding places_of least_of
loop-place-init c = grind (arith, common_steps, least_both)

pub returns : goal.returns
unfolding places_of least_of
returns c = grind (arith, common_steps, least_both)
