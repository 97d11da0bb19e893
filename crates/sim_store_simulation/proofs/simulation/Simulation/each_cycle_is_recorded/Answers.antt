use Rattle.std.proofs.Common.{suc, ◌≡◌, ◌*◌, ◌≤◌, length, subst}
use Rattle.std.specs.List.{All}
use Rattle.sim_flat_design.specs.Designs.{most}
use Rattle.sim_standard.specs.Records.{IsNamed, all_changes, records_to}
use Rattle.sim_standard.proofs.Records.{all_named}
use Rattle.sim_store_simulation.specs.Simulation.{Simulation}
use Rattle.sim_store_simulation.specs.Contents.{simulation_of}
use Rattle.sim_store_simulation.proofs.Changes.{changes-bounded}
use Rattle.sim_store_simulation.proofs.Going.{record-count}
use Rattle.sim_store_simulation.proofs.simulation.Simulation.each_cycle_is_recorded.Goals as goal

pub returns-clause-count : goal.returns-clause-count
returns-clause-count c =
    subst (λ (g : Simulation). length (records_to g.design g.cycles) ≡ suc g.cycles) c.self.view_is (record-count c.self.invariant.state)

pub returns-clause-few : goal.returns-clause-few
returns-clause-few c =
    let h = simulation_of c.self.inside.design c.self.inside.contents.value in
    subst (λ (g : Simulation). length (all_changes (records_to g.design g.cycles)) ≤ suc g.cycles * most) c.self.view_is
    (changes-bounded h.design c.self.invariant.state.processes c.self.invariant.state.few h.cycles)

pub returns-clause-named : goal.returns-clause-named
returns-clause-named c =
    let h = simulation_of c.self.inside.design c.self.inside.contents.value in
    subst (λ (g : Simulation). All (IsNamed (length g.design.nets)) (records_to g.design g.cycles)) c.self.view_is
    (all_named h.design c.self.invariant.state.processes h.cycles)
