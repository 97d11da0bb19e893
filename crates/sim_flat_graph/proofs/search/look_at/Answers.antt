use Rattle.std.proofs.Common.{arith}
use Rattle.std.proofs.lemmas.Grind.{elements}
use Rattle.sim_flat_graph.specs.Search.{all_noted}
use Rattle.sim_flat_graph.proofs.search.look_at.Goals as goal

pub returns-in-None-clause-value : goal.returns-in-None-clause-value
unfolding all_noted
returns-in-None-clause-value c = grind (arith, elements)

pub returns-in-Some-clause-value : goal.returns-in-Some-clause-value
unfolding all_noted
returns-in-Some-clause-value c = grind (arith, elements)
