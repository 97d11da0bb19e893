use Rattle.std.proofs.Common.{sym, subst}
use Rattle.sim_store_simulation.specs.Simulation.{Simulation, IsComplete, IsUpcoming}
use Rattle.sim_store_simulation.proofs.Going.{coming}
use Rattle.sim_store_simulation.proofs.Boxes.{held, shown}
use Rattle.sim_store_simulation.proofs.simulation.Simulation.upcoming.Goals as goal

pub returns-clause-value : goal.returns-clause-value
returns-clause-value c =
    let kept = held c.self.inside.design c.deref_mut-contents.ensures.value c.self.invariant in
    let view = shown c.self.inside.design c.deref_mut-contents.ensures.value c.self.view_is in
    let all = subst IsComplete (sym view) c.requires in
    subst (λ (h : Simulation). IsUpcoming h c.upcoming.result) view (rw c.upcoming.ensures
    (coming kept.state all c.in_ok-next.next c.is_delta.result c.is_empty-is_waited.result c.in_ok-next.ensures.value c.is_delta.ensures
    c.is_empty-is_waited.ensures))
