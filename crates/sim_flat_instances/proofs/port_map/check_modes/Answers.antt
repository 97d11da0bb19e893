use Rattle.std.proofs.Common.{rules, tests}
use Rattle.sim_flat_scope.specs.Faults.{earliest}
use Rattle.sim_flat_instances.proofs.port_map.check_modes.Goals as goal

pub returns-2 : goal.returns-2
unfolding earliest
returns-2 c = search (rules, tests)
