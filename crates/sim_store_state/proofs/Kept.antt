-- The lists beside a state stay right.
use Rattle.std.proofs.Common.{ℕ, ◌≡◌, ◌++◌, List, [], ◌∷◌, get_or, set, map, refl, ap, sym, ◌∙◌, subst}
use Rattle.std.proofs.Math.Seq.{map-set_same}
use Rattle.std.proofs.lemmas.List.{map-append}
use Rattle.sim_logic.specs.declared.logic.Logic.{Logic}
use Rattle.sim_standard.specs.Drivers.{DriverState}
use Rattle.sim_standard.specs.State.{Owned, all_drivers, driver_values}
use Rattle.sim_standard.proofs.Names.{nothing_owned}
use Rattle.sim_containers.specs.RowArray.{joined}
use Rattle.sim_store_nets.specs.Lists.{Lists, NetValues}
use Rattle.sim_store_state.specs.FlatState.{AreShares, IsConsistent, counts}

-- the values of the drivers of all, process by process
values-joined : (os : List Owned) → driver_values (all_drivers os) ≡ joined (map (λ (o : Owned). driver_values o.drivers) os)
values-joined [] = refl
values-joined (o ∷ os) =
    map-append (λ (d : DriverState). d.value) o.drivers (all_drivers os) ∙ ap (λ (ws : List Logic). driver_values o.drivers ++ ws) (values-joined os)

-- the drivers of one process are replaced by others with the same values
pub values-put : (os : List Owned) (n : ℕ) (own : Owned) → driver_values own.drivers ≡ driver_values (get_or os n nothing_owned).drivers
    → driver_values (all_drivers (set os n own)) ≡ driver_values (all_drivers os)
values-put os n own same =
    values-joined (set os n own) ∙ (ap joined (map-set_same (λ (o : Owned). driver_values o.drivers) os n own nothing_owned same) ∙ sym (values-joined os))

-- other shares of the same sizes, whose drivers have the same values
pub shares-keep : {values : NetValues} {shares : List (List Owned)} {lists : Lists} → IsConsistent values shares lists → (shares' : List (List Owned))
    → counts shares' ≡ counts shares → driver_values (all_drivers (joined shares')) ≡ driver_values (all_drivers (joined shares))
    → IsConsistent values shares' lists
shares-keep i shares' ec ev = record {
  shared = subst AreShares (sym ec) i.shared;
  nets = i.nets;
  valued = i.valued ∙ sym ev;
  resolving = i.resolving;
  touching = i.touching;
}

pub put-keeps : {values : NetValues} {shares : List (List Owned)} {lists : Lists} → IsConsistent values shares lists → (n : ℕ) (shares' : List (List Owned))
    (own : Owned) → joined shares' ≡ set (joined shares) n own → counts shares' ≡ counts shares
    → driver_values own.drivers ≡ driver_values (get_or (joined shares) n nothing_owned).drivers → IsConsistent values shares' lists
put-keeps {shares = shares} i n shares' own eo ec ev =
    shares-keep i shares' ec (ap (λ (os : List Owned). driver_values (all_drivers os)) eo ∙ values-put (joined shares) n own ev)
