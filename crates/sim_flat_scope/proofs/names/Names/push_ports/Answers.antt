use Rattle.std.proofs.Common.{arith}
use Rattle.std.proofs.lemmas.Grind.{common_steps}
use Rattle.sim_flat_scope.proofs.NameLists.{appends}
use Rattle.sim_flat_scope.specs.DeclaredNames.{port_names}
use Rattle.sim_flat_scope.proofs.names.Names.push_ports.Goals as goal

pub loop-port-preserved : goal.loop-port-preserved
unfolding port_names
loop-port-preserved c = grind (arith, common_steps, appends)

pub returns : goal.returns
unfolding port_names
returns c = grind (arith, common_steps, appends)
