use Rattle.std.proofs.Common.{rules, tests}
use Rattle.sim_flat_instances.proofs.instance.architecture_place.Goals as goal

pub returns-in-Entity : goal.returns-in-Entity
returns-in-Entity c = search (rules, tests)
