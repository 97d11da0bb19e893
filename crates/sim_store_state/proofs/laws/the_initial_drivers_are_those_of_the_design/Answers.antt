use Rattle.sim_store_state.proofs.Starting.{first_waves}
use Rattle.sim_store_state.proofs.laws.the_initial_drivers_are_those_of_the_design.Goals as goal

pub returns : goal.returns
returns c design owned = first_waves design owned
