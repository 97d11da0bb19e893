use Rattle.std.proofs.Common.{arith}
use Rattle.sim_flat_scope.proofs.NameLists.{named_by_more}
use Rattle.sim_flat_scope.proofs.names.Names.push.Goals as goal

pub returns : goal.returns
returns c = grind (arith, named_by_more)
