use Rattle.std.proofs.Common.{◌≡◌, None, refl, sum, ap, sym, ◌∙◌, subst}
use Rattle.std.specs.Arc.{arc_value}
use Rattle.sim_store.specs.Handing.{PhaseInput}
use Rattle.sim_store.specs.Retained.{retained_of}
use Rattle.sim_store_simulation.specs.Simulation.{Simulation, IsComplete, IsLogged, with_marks}
use Rattle.sim_store.specs.Run.{Run}
use Rattle.sim_store.specs.WaveStore.{IsStore}
use Rattle.sim_store.proofs.Orders.{sum-counts}
use Rattle.sim_store.proofs.Stores.{logged-marked, store-executed}
use Rattle.sim_store.proofs.handed_out.HandedOutStore.take_back.Goals as goal

pub simulation_of-requires-clause-all : goal.simulation_of-requires-clause-all
simulation_of-requires-clause-all g c =
    sym (sum-counts c.in_ok-input.shares.items) ∙ (ap sum c.in_ok-input.ensures.counts ∙ c.self.invariant.3)

pub open-requires-clause-log : goal.open-requires-clause-log
open-requires-clause-log g c =
    let d = g.D.DesignType.design in
    let s = c.self.inside in
    let m = c.in_ok-simulation.simulation in
    let before = retained_of d (arc_value s.input) s.retained in
    let same : m ≡ with_marks before m.deposited = c.in_ok-simulation.ensures.same
    ∙ ap (λ (f : PhaseInput). with_marks (retained_of d f s.retained) m.deposited) c.in_ok-input.ensures.input in
    subst (λ (h : Simulation). IsLogged h s.log) (sym same) (logged-marked c.self.invariant.4 before.phase m.deposited)

pub open-requires-clause-bounds : goal.open-requires-clause-bounds
open-requires-clause-bounds g c =
    let d = g.D.DesignType.design in
    let s = c.self.inside in
    let m = c.in_ok-simulation.simulation in
    let before = retained_of d (arc_value s.input) s.retained in
    let same : m ≡ with_marks before m.deposited = c.in_ok-simulation.ensures.same
    ∙ ap (λ (f : PhaseInput). with_marks (retained_of d f s.retained) m.deposited) c.in_ok-input.ensures.input in
    subst (λ (h : Simulation). IsStore (record { simulation = h; stop = s.stop; limit = s.limit; ended = None })) (sym same)
    (store-executed (record { simulation = before; stop = s.stop; limit = s.limit; ended = None }) m.deposited c.self.invariant.1 refl)

pub returns-clause-complete : goal.returns-clause-complete
returns-clause-complete g c =
    subst (λ (r : Run). IsComplete r.store.simulation) (sym c.open.ensures) c.in_ok-simulation.ensures.complete
