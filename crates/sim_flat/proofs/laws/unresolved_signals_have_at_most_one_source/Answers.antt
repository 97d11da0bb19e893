use Rattle.sim_flat.proofs.NestedNets.{names_allowed}
use Rattle.sim_flat.proofs.laws.unresolved_signals_have_at_most_one_source.Goals as goal

pub returns : goal.returns
returns c = λ limits blocks top design f. names_allowed limits blocks top design f
