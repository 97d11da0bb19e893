use Rattle.std.proofs.Common.{ap}
use Rattle.sim_store_simulation.specs.Simulation.{Simulation}
use Rattle.sim_store_simulation.proofs.Boxes.{shown}
use Rattle.sim_store_simulation.proofs.simulation.Simulation.cycles.Goals as goal

pub returns : goal.returns
returns c = ap (λ (g : Simulation). g.cycles) (shown c.self.inside.design c.deref.ensures c.self.view_is)
