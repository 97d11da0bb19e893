-- A body that is a single assignment, and what is known of its driver after it.
use Rattle.std.proofs.Common.{ℕ, ◌+◌, ◌<◌, ◌≤◌, ◌≡◌, ◌≢◌, Bool, false, List, [], ◌∷◌, Option, length, get_or, set, take, refl, ap, sym, ◌∙◌, subst, arith}
use Rattle.std.specs.List.{All}
use Rattle.std.specs.Prelude.{Result, Ok}
use Rattle.std.proofs.Math.Seq.{set_out}
use Rattle.std.proofs.lemmas.List.{get_or-set_same, get_or-set_other, get_or_default, length-set, map-set, set-get_or}
use Rattle.std.proofs.lemmas.List.Elements.{All-set}
use Rattle.std.proofs.lemmas.Result.{on_ok_weaker}
use Rattle.sim_flat_design.specs.declared.held.Held.{Held}
use Rattle.sim_standard.specs.Drivers.{DriverState, next_time}
use Rattle.sim_standard.specs.State.{Owned, driver_at, driver_values, owned_at}
use Rattle.sim_standard.specs.declared.net_view.NetView.{NetView}
use Rattle.sim_standard.proofs.Names.{no_driver}
use Rattle.sim_wave.specs.Rising.{RisesFrom}
use Rattle.sim_exec_code.specs.declared.quick.SingleAssignment.{SingleAssignment}
use Rattle.sim_exec_code.specs.Quick.{driver_after}
use Rattle.sim_containers.specs.Numbers.{is_in}
use Rattle.sim_containers.specs.RowArray.{joined}
use Rattle.sim_containers.specs.Times.{time_of}
use Rattle.sim_containers.proofs.Flat.{within}
use Rattle.sim_store_share.specs.Assignments.{AreAssigned, IsAssigned}
use Rattle.sim_store_share.specs.PendingTimes.{Pending}
use Rattle.sim_store_share.specs.Rows.{with_item}
use Rattle.sim_store_share.specs.Shares.{IsShare, owned_lists, time_at}
use Rattle.sim_store_share.proofs.Contents.{as_owned, owned-at, same_owned}
use Rattle.sim_store_share.proofs.Held.{own-at, own-set}
use Rattle.sim_store_share.proofs.Items.{item-is, item-row, joined-item, length-item}
use Rattle.sim_store_share.proofs.Telling.{IsPut}

-- ---- the drivers of one process

abbrev rises : ℕ → DriverState → Type 0
rises now d = RisesFrom now d.pending

-- one of them is assigned
row-assigned : {E : Type 0} (net : ℕ → NetView) (now : ℕ) (q : SingleAssignment) (done : Result Unit E) (next : Option ℕ) (row : List DriverState)
    (new : DriverState) → All (λ (d : DriverState). RisesFrom now d.pending) row → IsAssigned net now q done next (driver_at row q.driver) new
    → AreAssigned net now q done row (set row q.driver new)
row-assigned net now q done next row new pending a = record {
  ok = on_ok_weaker done (λ (is : new ≡ driver_after net now q (driver_at row q.driver)). ap (set row q.driver) is) a.ok;
  pending = All-set (rises now) row q.driver new a.pending pending;
  values = map-set (λ (d : DriverState). d.value) row q.driver new ∙ (ap (set (driver_values row) q.driver) a.value
      ∙ (sym (map-set (λ (d : DriverState). d.value) row q.driver (driver_at row q.driver)) ∙ ap driver_values (set-get_or row q.driver no_driver)));
}

-- if there is no such driver, nothing is done
pub none-assigned : {E : Type 0} (net : ℕ → NetView) (now : ℕ) (q : SingleAssignment) (row : List DriverState) → length row ≤ q.driver
    → All (λ (d : DriverState). RisesFrom now d.pending) row → AreAssigned {E = E} net now q (Ok tt) row row
none-assigned net now q row le pending = record {
  ok = sym (set_out row q.driver (driver_after net now q (driver_at row q.driver)) le);
  pending = pending;
  values = refl;
}

-- ---- a share, in which the driver k of the process at p is assigned; it has the number n among all

module _ (dss : List (List DriverState)) (vss : List (List Held)) (own : List Owned) (is : owned_lists dss vss ≡ own) (long : length dss ≡ length vss)
    (p k n : ℕ) (at : p < length dss) (inside : k < length (get_or dss p [])) (there : n ≡ length (joined (take p dss)) + k) (new : DriverState) where
  abbrev row : List DriverState
  row = get_or dss p []

  abbrev dss' : List (List DriverState)
  dss' = with_item dss n new

  row-set : dss' ≡ set dss p (set row k new)
  row-set = item-row dss p k n new at inside there

  pub driver-within : n < length (joined dss)
  driver-within = omega (arith, inside, there, within dss p at)

  -- which driver it was
  pub driver-was : (old : DriverState) → old ≡ get_or (joined dss) n old → old ≡ driver_at row k
  driver-was old e = e ∙ (item-is dss p k n old at inside there ∙ get_or_default row k old no_driver inside)

  own-now : owned_at (owned_lists dss' vss) p ≡ as_owned (set row k new) (get_or vss p [])
  own-now =
      owned-at dss' vss p (length-item dss n new ∙ long)
      ∙ same_owned (ap (λ (w : List (List DriverState)). get_or w p []) row-set ∙ get_or-set_same dss p (set row k new) [] at) refl

  pub driver-alone : owned_lists dss' vss ≡ set own p (record (owned_at own p) { drivers = (owned_at (owned_lists dss' vss) p).drivers })
  driver-alone =
      own-set dss vss own is long p (set row k new) (get_or vss p []) dss' vss row-set (sym (set-get_or vss p []))
      ∙ ap (set own p) (same_owned (ap (λ (o : Owned). o.drivers) (sym own-now)) (ap (λ (o : Owned). o.variables) (sym (own-at dss vss own is long p))))

  pub driver-assigned : {E : Type 0} (net : ℕ → NetView) (now : ℕ) (q : SingleAssignment) (done : Result Unit E) (next : Option ℕ) (old : DriverState)
      → k ≡ q.driver → old ≡ get_or (joined dss) n old → All (λ (d : DriverState). RisesFrom now d.pending) (owned_at own p).drivers
      → IsAssigned net now q done next old new
      → AreAssigned net now q done (owned_at own p).drivers (owned_at (owned_lists dss' vss) p).drivers
  driver-assigned net now q done next old ek e pending a =
      let was : row ≡ (owned_at own p).drivers = ap (λ (o : Owned). o.drivers) (sym (own-at dss vss own is long p)) in
      let now_is : set row q.driver new ≡ (owned_at (owned_lists dss' vss) p).drivers =
      ap (λ (j : ℕ). set row j new) (sym ek) ∙ ap (λ (o : Owned). o.drivers) (sym own-now) in
      let here : old ≡ driver_at row q.driver = driver-was old e ∙ ap (driver_at row) ek in
      subst (λ (ds : List DriverState). AreAssigned net now q done ds (owned_at (owned_lists dss' vss) p).drivers) was
      (subst (AreAssigned net now q done row) now_is
      (row-assigned net now q done next row new (subst (All (λ (d : DriverState). RisesFrom now d.pending)) (sym was) pending)
      (subst (λ (d : DriverState). IsAssigned net now q done next d new) here a)))

-- the time of one driver was put
pub item-told : (dss : List (List DriverState)) (vss : List (List Held)) (times times' : Pending) (taken : List Bool) (n : ℕ) (new : DriverState)
    (next : Option ℕ) → n < length (joined dss) → IsShare dss vss times taken → length times'.queue ≡ length times.queue → IsPut times times' n next
    → next ≡ next_time (new ∷ []) → IsShare (with_item dss n new) vss times' taken
item-told dss vss times times' taken n new next at s sized put is =
    let flat = joined-item dss n new in
    let count : length (joined (with_item dss n new)) ≡ length (joined dss) = ap length flat ∙ length-set (joined dss) n new in
    let all : (d : ℕ) → driver_at (joined (with_item dss n new)) d ≡ driver_at (set (joined dss) n new) d =
    λ d. ap (λ (ds : List DriverState). driver_at ds d) flat in
    let here : time_at (joined (with_item dss n new)) n ≡ next =
    ap (λ (w : DriverState). next_time (w ∷ [])) (all n ∙ get_or-set_same (joined dss) n new no_driver at) ∙ sym is in
    let others : (d : ℕ) → d ≢ n → is_in times.stale d ≡ false → time_of times.queue d ≡ time_at (joined (with_item dss n new)) d =
    λ d apart fresh. s.timed d fresh ∙ ap (λ (w : DriverState). next_time (w ∷ []))
    (sym (all d ∙ get_or-set_other (joined dss) n d new no_driver apart)) in
    record {
      owned = length-item dss n new ∙ s.owned;
      sized = sized ∙ (s.sized ∙ sym count);
      timed = put (time_at (joined (with_item dss n new))) here others;
      marked = s.marked ∙ sym count;
    }
