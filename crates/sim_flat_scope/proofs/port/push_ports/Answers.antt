use Rattle.std.proofs.Common.{arith}
use Rattle.std.proofs.lemmas.Grind.{common_steps}
use Rattle.sim_flat_scope.specs.Ports.{ports_named}
use Rattle.sim_flat_scope.proofs.NameLists.{appends}
use Rattle.sim_flat_scope.proofs.port.push_ports.Goals as goal

pub loop-name-preserved : goal.loop-name-preserved
unfolding ports_named
loop-name-preserved c = grind (arith, common_steps, appends)

pub returns : goal.returns
unfolding ports_named
returns c = grind (arith, common_steps, appends)
