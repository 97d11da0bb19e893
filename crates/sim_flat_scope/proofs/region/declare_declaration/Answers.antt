use Rattle.std.proofs.Common.{arith}
use Rattle.sim_flat_scope.proofs.Declaring.{in_pieces}
use Rattle.sim_flat_scope.proofs.region.declare_declaration.Goals as goal

pub returns-in_ok-next-in-Component-clause-names : goal.returns-in_ok-next-in-Component-clause-names
returns-in_ok-next-in-Component-clause-names c = grind (arith, in_pieces)
