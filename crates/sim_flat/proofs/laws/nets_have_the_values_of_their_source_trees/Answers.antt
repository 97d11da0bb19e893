use Rattle.sim_flat.proofs.NestedNets.{nets_nested}
use Rattle.sim_flat.proofs.laws.nets_have_the_values_of_their_source_trees.Goals as goal

pub returns : goal.returns
returns c = λ limits blocks top design f. nets_nested limits blocks top design f
