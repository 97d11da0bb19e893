-- What a simulation holds in its box, seen through a reference.
use Rattle.std.proofs.Common.{◌≡◌, ap, sym, ◌∙◌, subst}
use Rattle.sim_flat_design.specs.Designs.{Design}
use Rattle.sim_store_simulation.specs.declared.simulation.Contents.{Contents}
use Rattle.sim_store_simulation.specs.Simulation.{Simulation}
use Rattle.sim_store_simulation.specs.Contents.{IsOf, simulation_of}

-- It is what the simulation of this design holds.
pub held : (design : Design) {lent boxed : Contents} → lent ≡ boxed → IsOf design boxed → IsOf design lent
held design is of = subst (λ (m : Contents). IsOf design m) (sym is) of

-- It shows the same simulation.
pub shown : (design : Design) {lent boxed : Contents} {h : Simulation} → lent ≡ boxed → simulation_of design boxed ≡ h
    → simulation_of design lent ≡ h
shown design is view = ap (simulation_of design) is ∙ view
