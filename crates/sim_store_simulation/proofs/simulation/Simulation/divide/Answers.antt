use Rattle.std.proofs.Common.{sym, subst}
use Rattle.sim_store_simulation.specs.declared.simulation.Contents.{Contents}
use Rattle.sim_store_simulation.specs.Contents.{IsOf}
use Rattle.sim_store_simulation.proofs.simulation.Simulation.divide.Goals as goal

pub of_contents-requires : goal.of_contents-requires
of_contents-requires c = subst (λ (m : Contents). IsOf c.into_contents-design.result.0 m) (sym c.in_ok-contents.ensures) c.into_contents-design.ensures.of
