use Rattle.std.proofs.Common.{◌≡◌, ◌≤◌, Some, subst}
use Rattle.sim_store_simulation.specs.Simulation.{Simulation, AreRising, updated_last}
use Rattle.sim_standard.specs.Midway.{updated_in}
use Rattle.sim_store_simulation.proofs.Boxes.{held, shown}
use Rattle.sim_store_simulation.proofs.Going.{slow}
use Rattle.sim_store_simulation.proofs.simulation.Simulation.time.Goals as goal

pub returns-clause-slow : goal.returns-clause-slow
returns-clause-slow c =
    let kept = held c.self.inside.design c.deref-contents.ensures c.self.invariant in
    let view = shown c.self.inside.design c.deref-contents.ensures c.self.view_is in
    subst (λ (g : Simulation). c.deref-contents.result.now.delta ≤ g.cycles) view (slow kept.state)

pub returns-clause-there : goal.returns-clause-there
returns-clause-there c =
    let kept = held c.self.inside.design c.deref-contents.ensures c.self.invariant in
    let view = shown c.self.inside.design c.deref-contents.ensures c.self.view_is in
    subst (λ (g : Simulation). updated_in g.design g.cycles ≡ Some (updated_last g)) view kept.state.there

pub returns-clause-rising : goal.returns-clause-rising
returns-clause-rising c =
    let kept = held c.self.inside.design c.deref-contents.ensures c.self.invariant in
    let view = shown c.self.inside.design c.deref-contents.ensures c.self.view_is in
    let i = kept.state in
    subst (λ (g : Simulation). AreRising g) view (λ p lt. rw (i.time_is, i.owned_are) at (i.ready p lt))
