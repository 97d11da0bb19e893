use Rattle.std.proofs.Common.{arith}
use Rattle.std.proofs.lemmas.Grind.{common_steps}
use Rattle.sim_flat_scope.proofs.NameLists.{appends}
use Rattle.sim_flat_scope.specs.DeclaredNames.{concurrent_labels}
use Rattle.sim_flat_scope.proofs.names.Names.push_concurrents.Goals as goal

pub loop-statement-preserved : goal.loop-statement-preserved
unfolding concurrent_labels
loop-statement-preserved c = grind (arith, common_steps, appends)

pub returns : goal.returns
unfolding concurrent_labels
returns c = grind (arith, common_steps, appends)
