use Rattle.std.proofs.Common.{rules, tests, ◌≡◌, None, sym, subst}
use Rattle.sim_store_simulation.specs.Simulation.{Simulation, IsComplete, IsLogged}
use Rattle.sim_store.specs.Run.{Run}
use Rattle.sim_store.specs.WaveStore.{IsStore}
use Rattle.sim_store.specs.contracts.run.Run.{the_view}
use Rattle.sim_store.proofs.Stores.{ended-complete, logged-marked, store-executed}
use Rattle.sim_store.proofs.run.Run.execute_due.Goals as goal

pub invariant_of-result : goal.invariant_of-result
invariant_of-result c =
    let s = c.self.inside in
    let running : s.ended ≡ None = search (rules, tests) in
    let same = sym c.in_ok-simulation.ensures.same in (
      subst (λ (g : Simulation). IsStore (record { simulation = g; stop = s.stop; limit = s.limit; ended = s.ended })) same
          (store-executed (the_view s).store c.in_ok-simulation.simulation.deposited c.self.invariant.0 running),
      subst (λ (g : Simulation). IsLogged g s.log) same (logged-marked c.self.invariant.1 s.simulation.phase c.in_ok-simulation.simulation.deposited),
    )

pub returns-then-is_some-clause-complete : goal.returns-then-is_some-clause-complete
returns-then-is_some-clause-complete c =
    subst (λ (r : Run). IsComplete r.store.simulation) c.self.view_is
    (ended-complete (the_view c.self.inside).store c.self.invariant.0 (sym c.if-is_some.ensures))
