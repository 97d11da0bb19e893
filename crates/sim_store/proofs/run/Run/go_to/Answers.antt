use Rattle.std.proofs.Common.{◌≡◌, ◌≤◌, None, Some, ap, sym, ◌∙◌, subst}
use Rattle.sim_standard.specs.Cycle.{CycleAt}
use Rattle.sim_store_simulation.specs.Simulation.{next_after}
use Rattle.sim_store.specs.Run.{Run}
use Rattle.sim_store.specs.WaveStore.{IsStore}
use Rattle.sim_store.specs.contracts.run.Run.{the_view}
use Rattle.sim_store.proofs.Stores.{limit-reached, store-goes-on}
use Rattle.sim_store.proofs.run.Run.go_to.Goals as goal

pub returns-then-cycles-self-clause-ok : goal.returns-then-cycles-self-clause-ok
returns-then-cycles-self-clause-ok c =
    let is : IsStore c.args.self.now.store = subst (λ (r : Run). IsStore r.store) c.self.view_is c.self.invariant.0 in
    let at = sym c.cycles.ensures ∙ c.if-cycles-self.true in
    let reached = ap (λ (r : Run). r.store.simulation.cycles) (sym c.self.view_is) ∙ (at ∙ ap (λ (r : Run). r.store.limit) c.self.view_is) in
    rw c.end.ensures.step (
      c.requires.executed,
      reached,
      limit-reached c.args.self.now.store c.args.time is reached c.requires.next c.requires.until,
      ap (λ (r : Run). r.store) c.end.ensures.ended,
    )

pub invariant_of-self-2 : goal.invariant_of-self-2
invariant_of-self-2 c =
    let w = (the_view c.self.inside).store in
    let running = subst (λ (r : Run). r.store.ended ≡ None) (sym c.self.view_is) c.requires.open in
    let next = subst (λ (r : Run). next_after r.store.simulation ≡ Some (CycleAt c.args.time)) (sym c.self.view_is) c.requires.next in
    let before = subst (λ (r : Run). c.args.time ≤ r.store.stop) (sym c.self.view_is) c.requires.until in (
      store-goes-on w c.go_on.new.self c.args.time c.self.invariant.0 running c.in_ok-go_on.ensures.ok.0 next before
          (λ e. c.if-cycles-self.false (c.cycles.ensures ∙ e)) c.in_ok-go_on.ensures.ok.1,
      c.go_on.ensures.log c.self.invariant.1,
    )
