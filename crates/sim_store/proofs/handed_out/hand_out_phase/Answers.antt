use Rattle.std.proofs.Common.{ℕ, ◌≡◌, None, false, sum, ap, sym, ◌∙◌, subst}
use Rattle.std.specs.Arc.{arc_value}
use Rattle.sim_store_state.specs.FlatState.{AreShares}
use Rattle.sim_store.specs.Handing.{PhaseInput}
use Rattle.sim_store.specs.Retained.{IsRetained, retained_of}
use Rattle.sim_store_simulation.specs.Simulation.{Simulation, IsLogged, those_in}
use Rattle.sim_store.specs.WaveStore.{IsStore}
use Rattle.sim_store.proofs.Orders.{sum-counts}
use Rattle.sim_store.proofs.handed_out.hand_out_phase.Goals as goal

pub split_contents-input-requires-clause-fresh : goal.split_contents-input-requires-clause-fresh
split_contents-input-requires-clause-fresh g c =
    subst (λ (h : Simulation). (p : ℕ) → those_in h.deposited p ≡ false) (sym c.into_contents-design.ensures.same) c.requires.fresh

pub invariant_of-handed_out : goal.invariant_of-handed_out
invariant_of-handed_out g c =
    let d = g.D.DesignType.design in
    let retained = c.split_contents-input.result.2 in
    let input : arc_value c.in_ok-input.input ≡ c.split_contents-input.result.0 = c.in_ok-input.ensures.input in
    let same : retained_of d (arc_value c.in_ok-input.input) retained ≡ c.args.simulation =
    ap (λ (w : PhaseInput). retained_of d w retained) input ∙ (c.split_contents-input.ensures.same ∙ c.into_contents-design.ensures.same) in (
      subst (λ (w : PhaseInput). IsRetained d w retained) (sym input) c.split_contents-input.ensures.retained,
      subst (λ (h : Simulation). IsStore (record { simulation = h; stop = c.args.stop; limit = c.args.limit; ended = None })) (sym same) c.requires.bounds,
      subst AreShares (sym c.in_ok-input.ensures.lengths) c.split_contents-input.ensures.shares,
      ap sum c.in_ok-input.ensures.lengths ∙ (sum-counts c.split_contents-input.result.1.items ∙ c.split_contents-input.ensures.all),
      subst (λ (h : Simulation). IsLogged h c.args.log) (sym same) c.requires.log,
    )
