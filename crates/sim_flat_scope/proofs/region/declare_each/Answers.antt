use Rattle.std.proofs.Common.{arith}
use Rattle.std.proofs.lemmas.Grind.{common_steps}
use Rattle.sim_flat_scope.specs.DeclaredNames.{named_by}
use Rattle.sim_flat_scope.specs.Regions.{labels}
use Rattle.sim_flat_scope.specs.Scopes.{declaring}
use Rattle.sim_flat_scope.proofs.region.declare_each.Goals as goal

pub loop-name-preserved : goal.loop-name-preserved
unfolding labels named_by declaring
loop-name-preserved c = grind (arith, common_steps)

pub returns : goal.returns
unfolding labels named_by declaring
returns c = grind (arith, common_steps)
