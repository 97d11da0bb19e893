use Rattle.std.proofs.Common.{arith}
use Rattle.std.proofs.lemmas.Grind.{common_steps}
use Rattle.sim_flat_scope.proofs.NameLists.{appends}
use Rattle.sim_flat_scope.specs.DeclaredNames.{variable_names}
use Rattle.sim_flat_scope.proofs.names.Names.push_variables.Goals as goal

pub loop-variable-preserved : goal.loop-variable-preserved
unfolding variable_names
loop-variable-preserved c = grind (arith, common_steps, appends)

pub returns : goal.returns
unfolding variable_names
returns c = grind (arith, common_steps, appends)
