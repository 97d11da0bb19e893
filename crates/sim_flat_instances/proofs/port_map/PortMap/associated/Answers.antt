use Rattle.std.proofs.Common.{rules, tests}
use Rattle.sim_flat_instances.specs.PortMaps.{associated}
use Rattle.sim_flat_instances.proofs.port_map.PortMap.associated.Goals as goal

pub returns-in-Some : goal.returns-in-Some
unfolding associated
returns-in-Some c = search (rules, tests)
