use Rattle.sim_standard.proofs.Least.{marked_of-at_places}
use Rattle.sim_standard.proofs.editing.the_kept_transactions_are_the_marked_ones.Goals as goal

pub returns : goal.returns
returns c limit old first others test decides = marked_of-at_places limit old first others test decides
