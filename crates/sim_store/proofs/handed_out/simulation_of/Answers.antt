use Rattle.std.proofs.Common.{subst, sym}
use Rattle.sim_store_simulation.specs.Simulation.{IsComplete}
use Rattle.sim_store.proofs.handed_out.simulation_of.Goals as goal

pub returns-clause-complete : goal.returns-clause-complete
returns-clause-complete g c = subst IsComplete (sym c.in_ok-simulation.ensures) c.join_contents-design.ensures.complete
