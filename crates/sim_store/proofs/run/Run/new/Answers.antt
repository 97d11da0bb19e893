use Rattle.std.proofs.Common.{ap}
use Rattle.sim_store_simulation.specs.Simulation.{Simulation}
use Rattle.sim_store.proofs.Stores.{store-begins}
use Rattle.sim_store.proofs.run.Run.new.Goals as goal

pub open-requires-clause-bounds : goal.open-requires-clause-bounds
open-requires-clause-bounds c =
    store-begins c.in-Ok.simulation c.args.stop c.args.limit c.if-stop-gt-LATEST.false (ap (λ (g : Simulation). g.cycles) c.in-Ok.ensures.ok)
