use Rattle.sim_run.proofs.NestedValues.{nested_values}
use Rattle.sim_run.proofs.laws.cycles_give_nets_the_values_of_their_source_trees.Goals as goal

pub returns : goal.returns
returns c = λ limits blocks top design drivers f. nested_values limits blocks top design drivers f
