use Rattle.sim_exec_code.proofs.GuardedBodies.{swapped}
use Rattle.sim_exec_code.proofs.guards.edge_of_both.Goals as goal

pub returns-in-None : goal.returns-in-None
returns-in-None c = swapped c.event_to-in-None.result c.args.first.now c.args.second.now c.event_to-in-None.ensures
