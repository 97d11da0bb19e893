use Rattle.std.proofs.Common.{arith}
use Rattle.std.proofs.lemmas.Grind.{common_steps}
use Rattle.sim_flat_scope.specs.Regions.{objects}
use Rattle.sim_flat_scope.specs.Scopes.{declaring}
use Rattle.sim_flat_scope.proofs.Declaring.{in_pieces}
use Rattle.sim_flat_scope.proofs.region.declare_objects.Goals as goal

pub returns-clause-declared : goal.returns-clause-declared
unfolding objects declaring
returns-clause-declared c = grind (arith, common_steps, in_pieces)

pub loop-name-preserved : goal.loop-name-preserved
unfolding objects declaring
loop-name-preserved c = grind (arith, common_steps, in_pieces)
