use Rattle.std.proofs.Common.{arith}
use Rattle.std.proofs.lemmas.Grind.{common_steps}
use Rattle.sim_flat_scope.specs.Ports.{ports_of}
use Rattle.sim_flat_scope.proofs.NameLists.{appends}
use Rattle.sim_flat_scope.proofs.port.ports_of.Goals as goal

pub loop-declaration-preserved : goal.loop-declaration-preserved
unfolding ports_of
loop-declaration-preserved c = grind (arith, common_steps, appends)

pub returns : goal.returns
unfolding ports_of
returns c = grind (arith, common_steps, appends)
