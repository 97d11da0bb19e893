use Rattle.std.proofs.Common.{◌+◌, ◌-◌}
use Rattle.sim_standard.specs.Editing.{before}
use Rattle.sim_standard.proofs.Names.{scheduled}
use Rattle.sim_standard.proofs.Least.{marked-at_places}
use Rattle.sim_standard.proofs.editing.an_inertial_edit_leaves_the_marked_transactions.Goals as goal

pub returns : goal.returns
returns c old now reject element elements test decides =
    marked-at_places (now + element.0 - reject) (before (now + element.0) old) (now + element.0, element.1) (scheduled now elements) test decides
