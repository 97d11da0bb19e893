use Rattle.sim_flat.proofs.WholeTrees.{design_whole, trees_whole}
use Rattle.sim_flat.proofs.laws.the_limit_on_levels_cuts_nothing_off.Goals as goal

pub returns-clause-trees : goal.returns-clause-trees
returns-clause-trees c = λ limits blocks top design f n le. trees_whole limits blocks top design f n le

pub returns-clause-design : goal.returns-clause-design
returns-clause-design c = λ limits blocks top design f n le. design_whole limits blocks top design f n le
