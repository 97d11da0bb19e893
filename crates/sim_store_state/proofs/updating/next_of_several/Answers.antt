use Rattle.std.proofs.Common.{get_or, take, ap, refl, sym, set, ◌∙◌}
use Rattle.std.proofs.lemmas.List.{set-get_or}
use Rattle.sim_containers.specs.RowArray.{joined}
use Rattle.sim_containers.specs.Times.{earlier}
use Rattle.sim_standard.specs.Drivers.{next_time}
use Rattle.sim_standard.specs.State.{all_drivers}
use Rattle.sim_store_state.proofs.Shares.{all-passed, next-more}
use Rattle.sim_store_state.proofs.Times.{none_next}
use Rattle.sim_store_state.proofs.updating.next_of_several.Goals as goal

pub loop-place-init : goal.loop-place-init
loop-place-init c = record { same = refl; value = sym none_next }

pub loop-place-preserved : goal.loop-place-preserved
loop-place-preserved c =
    let shares = c.args.shares.now in
    let now = c.loop-place.shares in
    let p = c.loop-place.place in
    let i = c.loop-place.invariant in
    let d = c.index-shares-place.result in
    let e = c.in_ok-next.ensures in
    record {
      same = ap (λ w. set now p w) e.same ∙ (set-get_or now p d ∙ i.same);
      value = c.sooner-next.ensures ∙ (ap (λ t. earlier t c.in_ok-next.field-0) i.value
          ∙ (ap (λ t. earlier (next_time (all_drivers (joined (take p shares)))) t) (e.value ∙ ap (λ xs. next_time (all_drivers (get_or xs p d))) i.same)
          ∙ sym (next-more shares p d c.loop-place-test.true)));
    }

pub returns : goal.returns
returns c = record {
  same = c.loop-place.invariant.same;
  value = c.loop-place.invariant.value ∙ ap (λ xs. next_time (all_drivers (joined xs)))
      (all-passed c.args.shares.now c.loop-place.place c.loop-place-test.false);
}
