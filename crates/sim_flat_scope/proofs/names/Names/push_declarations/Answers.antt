use Rattle.std.proofs.Common.{arith}
use Rattle.std.proofs.lemmas.Grind.{common_steps}
use Rattle.sim_flat_scope.proofs.NameLists.{appends}
use Rattle.sim_flat_scope.specs.DeclaredNames.{declaration_names}
use Rattle.sim_flat_scope.proofs.names.Names.push_declarations.Goals as goal

pub loop-declaration-preserved : goal.loop-declaration-preserved
unfolding declaration_names
loop-declaration-preserved c = grind (arith, common_steps, appends)

pub returns : goal.returns
unfolding declaration_names
returns c = grind (arith, common_steps, appends)
