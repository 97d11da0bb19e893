use Rattle.std.proofs.Common.{◌≡◌, ◌+◌, length, ap, subst, arith}
use Rattle.sim_standard.specs.Records.{all_changes, event_count, records_to}
use Rattle.sim_store_simulation.specs.Simulation.{Simulation}
use Rattle.sim_standard.proofs.Records.{change_count}
use Rattle.sim_store_simulation.specs.Contents.{simulation_of}
use Rattle.sim_store_simulation.proofs.simulation.Simulation.events.Goals as goal

abbrev counted : Simulation → Type 0
counted g = length (all_changes (records_to g.design g.cycles)) ≡ length g.design.nets + event_count (records_to g.design g.cycles)

pub overflow_sub-result : goal.overflow_sub-result
overflow_sub-result c =
    let h = simulation_of c.self.inside.design c.self.inside.contents.value in
    let all = subst counted c.self.view_is (change_count h.design c.self.invariant.state.processes h.cycles) in
    omega (arith, c.requires, all, ap length c.nets.ensures.value, ap (λ (g : Simulation). length g.design.nets) c.self.view_is)

pub returns : goal.returns
returns c =
    let h = simulation_of c.self.inside.design c.self.inside.contents.value in
    let all = subst counted c.self.view_is (change_count h.design c.self.invariant.state.processes h.cycles) in
    omega (arith, c.requires, all, ap length c.nets.ensures.value, ap (λ (g : Simulation). length g.design.nets) c.self.view_is)
