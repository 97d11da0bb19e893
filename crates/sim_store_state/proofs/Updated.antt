-- A state after an update.
use Rattle.std.proofs.Common.{ℕ, ◌<◌, ◌≡◌, false, List, [], ◌∷◌, length, map, refl, ap, sym, ◌∙◌, subst, arith}
use Rattle.std.proofs.lemmas.List.{get_or-map, get_or_past, length-map}
use Rattle.std.proofs.Math.Decide.{dec_lt}
use Rattle.sim_logic.specs.declared.logic.Logic.{Logic}
use Rattle.sim_logic.specs.declared.logic.Logic.TheVariants.{U}
use Rattle.sim_standard.specs.Drivers.{DriverState}
use Rattle.sim_standard.specs.State.{Owned, all_drivers}
use Rattle.sim_standard.proofs.Names.{own_taken}
use Rattle.sim_containers.specs.Numbers.{is_in}
use Rattle.sim_containers.specs.RowArray.{joined}
use Rattle.sim_store_nets.specs.Lists.{AreUnresolved, Lists, NetValues, net_from}
use Rattle.sim_store_nets.specs.Nets.{row_from, value_at}
use Rattle.sim_store_share.specs.Shares.{all_taken}
use Rattle.sim_store_state.specs.FlatState.{AreShares, IsConsistent, counts}
use Rattle.sim_store_state.specs.Updating.{IsUpdate}

-- no driver is due before the time of the next cycle
counts-taken : (time : ℕ) (shares : List (List Owned)) → counts (map (all_taken time) shares) ≡ counts shares
counts-taken time [] = refl
counts-taken time (os ∷ shares) =
    ap (λ (n : ℕ). n ∷ counts (map (all_taken time) shares)) (length-map os (own_taken time)) ∙ ap (λ (ns : List ℕ). length os ∷ ns) (counts-taken time shares)

-- the value of a net, resolved from its sources
value-resolved : (l : Lists) (present : List Logic) (n : ℕ) → present ≡ map (row_from l.driving) l.sources → n < length present → value_at present n
    ≡ net_from l n
value-resolved l present n e lt =
    ap (λ (vs : List Logic). value_at vs n) e
    ∙ get_or-map (row_from l.driving) l.sources n [] U (omega (arith, lt, ap length e, length-map l.sources (row_from l.driving)))

-- a net that is not touched has the value of its sources
unreached : {values : NetValues} {shares : List (List Owned)} {lists : Lists} → IsConsistent values shares lists → (ds : List DriverState) (lists' : Lists)
    → IsUpdate ds lists lists' → (n : ℕ) → n < length values.present → is_in lists'.touched n ≡ false → value_at values.present n ≡ net_from lists' n
unreached {values} {shares} {lists} i ds lists' u n lt none =
    let sized = ap length i.resolving ∙ length-map lists.sources (row_from lists.driving) in
    value-resolved lists values.present n i.resolving lt ∙ sym (u.still n (omega (arith, lt, sized)) none)

-- so after the events of the last cycle have ended, nets can be resolved
pub unresolved : {values : NetValues} {shares : List (List Owned)} {lists : Lists} → IsConsistent values shares lists → (ds : List DriverState)
    (values' : NetValues) (lists' : Lists) → IsUpdate ds lists lists' → values'.present ≡ values.present → values'.before ≡ values.present
    → AreUnresolved lists' values'
unresolved {values} {shares} {lists} i ds values' lists' u ev eb =
    let sized = ap length i.resolving ∙ length-map lists.sources (row_from lists.driving) in
    record {
      sources = ap length ev ∙ (sized ∙ sym (ap length u.sources));
      sized = u.sized ∙ (i.touching.sized ∙ (sized ∙ sym (ap length u.sources)));
      none = eb ∙ sym ev;
      others = λ n lt none. ap (λ (vs : List Logic). value_at vs n) ev ∙ unreached i ds lists' u n (omega (arith, lt, ap length ev)) none;
    }

pub update-keeps : {values : NetValues} {shares : List (List Owned)} {lists : Lists} → IsConsistent values shares lists → (time : ℕ) (values' : NetValues)
    (shares' : List (List Owned)) (lists' : Lists) → shares' ≡ map (all_taken time) shares → IsUpdate (all_drivers (joined shares')) lists lists'
    → values'.present ≡ map (row_from lists'.driving) lists'.sources → values'.before ≡ values.present → IsConsistent values' shares' lists'
update-keeps {values} {shares} {lists} i time values' shares' lists' es u ev eb =
    let sized = ap length i.resolving ∙ length-map lists.sources (row_from lists.driving) in
    let now : length values'.present ≡ length values.present =
    ap length ev ∙ (length-map lists'.sources (row_from lists'.driving) ∙ (ap length u.sources ∙ sym sized)) in
    record {
      shared = subst AreShares (sym (ap counts es ∙ counts-taken time shares)) i.shared;
      nets = ap length eb ∙ sym now;
      valued = u.driving;
      resolving = ev;
      touching = record {
        sized = u.sized ∙ (i.touching.sized ∙ sym now);
        still = λ n none. elim (dec_lt n (length values.present)) [
          | yes h ↦ value-resolved lists' values'.present n ev (omega (arith, h, now))
              ∙ (sym (unreached i (all_drivers (joined shares')) lists' u n h none) ∙ ap (λ (vs : List Logic). value_at vs n) (sym eb))
          | no h ↦ get_or_past values'.present n U (omega (arith, h, now))
              ∙ sym (ap (λ (vs : List Logic). value_at vs n) eb ∙ get_or_past values.present n U (omega (arith, h)))
        ];
      };
    }
