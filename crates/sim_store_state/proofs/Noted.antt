-- The drivers of one share after another are noted.
use Rattle.std.proofs.Common.{ℕ, ◌+◌, ◌-◌, ◌<◌, ◌≤◌, ◌≡◌, ◌++◌, inl, inr, eqb, Bool, true, false, List, [], length, set}
use Rattle.std.proofs.Common.{refl, ap, sym, ◌∙◌, subst, arith}
use Rattle.std.proofs.Math.Decide.{dec_lt}
use Rattle.std.proofs.lemmas.Bool.Decides.{nat_tests}
use Rattle.std.proofs.lemmas.List.{get_or-map, get_or-set_other, get_or-set_same, length-set, get_or-append-add, get_or_append_left, length-append}
use Rattle.std.proofs.lemmas.List.{length-map}
use Rattle.sim_logic.specs.declared.logic.Logic.{Logic}
use Rattle.sim_logic.specs.declared.logic.Logic.TheVariants.{U}
use Rattle.sim_standard.specs.Drivers.{DriverState}
use Rattle.sim_standard.specs.State.{Owned, all_drivers, driver_at, driver_values}
use Rattle.sim_standard.proofs.Names.{no_driver}
use Rattle.sim_containers.specs.Numbers.{is_in}
use Rattle.sim_store_nets.specs.Lists.{IsNotedAlone, Lists, net_from}
use Rattle.sim_store_nets.specs.Nets.{value_at}
use Rattle.sim_store_nets.proofs.SourceValues.{same-everywhere}
use Rattle.sim_store_share.specs.Taking.{AreListed, AreNoted, IsOnlyTaken}
use Rattle.sim_store_state.specs.Updating.{AreNotedAll, IsUpdate}
use Rattle.sim_store_state.proofs.Shares.{count-taken}

-- The first drivers are these, and their values have been noted; those of the others are as they were.
pub record IsNotedTo (drivers : List DriverState) (old new : Lists) : Type 0 where
  pub sources : new.sources ≡ old.sources
  pub sized : length new.driving ≡ length old.driving
  pub room : length new.gathered ≡ length old.gathered
  pub here : (d : ℕ) → d < length drivers → value_at new.driving d ≡ (driver_at drivers d).value
  pub others : (k : ℕ) → length drivers ≤ k → value_at new.driving k ≡ value_at old.driving k
  pub still : (n : ℕ) → n < length old.sources → is_in new.gathered n ≡ false → net_from new n ≡ net_from old n

pub noted-none : (l : Lists) → IsNotedTo [] l l
noted-none l = record {
  sources = refl;
  sized = refl;
  room = refl;
  here = λ d lt. absurd (omega (arith, lt));
  others = λ k le. refl;
  still = λ n lt none. refl;
}

-- the drivers of the next share
pub noted-more : (ds es : List DriverState) (old l l' : Lists) (first : ℕ) → first ≡ length ds → IsNotedTo ds old l → AreNoted first es l l'
    → IsNotedTo (ds ++ es) old l'
noted-more ds es old l l' first at i noted = record {
  sources = noted.sources ∙ i.sources;
  sized = noted.sized ∙ i.sized;
  room = noted.room ∙ i.room;
  here = λ d lt. elim (dec_lt d (length ds)) [
    | yes h ↦ (noted.others d (inl (omega (arith, h, at))) ∙ (i.here d h
        ∙ ap (λ (w : DriverState). w.value) (sym (get_or_append_left ds es no_driver d h))))
    | no h ↦ (let k = d - length ds in
        let is : d ≡ length ds + k = omega (arith, h) in
        let inside : k < length es = omega (arith, lt, h, length-append ds es) in
        subst (λ (m : ℕ). value_at l'.driving m ≡ (driver_at (ds ++ es) m).value) (sym is)
        (subst (λ (m : ℕ). value_at l'.driving (m + k) ≡ (driver_at (ds ++ es) (length ds + k)).value) at
        (noted.listed.here k inside ∙ ap (λ (w : DriverState). w.value) (sym (get_or-append-add ds es k no_driver)))))
  ];
  others = λ k le.
      let long = length-append ds es in
      noted.others k (inr (omega (arith, le, at, long))) ∙ i.others k (omega (arith, le, long));
  still = λ n lt none.
      let now = noted.still n (subst (λ m. n < m) (sym (ap length i.sources)) lt) none in now.1 ∙ i.still n lt now.0;
}

-- all of them
pub noted-all : (ds : List DriverState) (old l : Lists) → length old.driving ≡ length ds → IsNotedTo ds old l → AreNotedAll ds old l
noted-all ds old l long i = record {
  driving = same-everywhere l.driving (driver_values ds) (i.sized ∙ (long ∙ sym (length-map ds (λ (d : DriverState). d.value))))
      (λ d lt.
      let below : d < length ds = omega (arith, lt, i.sized, long) in
      i.here d below ∙ sym (get_or-map (λ (w : DriverState). w.value) ds d no_driver U below));
  sources = i.sources;
  room = i.room;
  still = i.still;
}

-- what is still to be noted is as it was
pub listed-next : (all es : List DriverState) (old l : Lists) (ds : List DriverState) (first : ℕ) → first ≡ length ds → IsNotedTo ds old l
    → old.driving ≡ driver_values all → first + length es ≤ length all
    → ((d : ℕ) → d < length es → driver_at es d ≡ driver_at all (first + d)) → AreListed first es l
listed-next all es old l ds first at i valued within same =
    let long : length old.driving ≡ length all = ap length valued ∙ length-map all (λ (d : DriverState). d.value) in
    record {
      within = omega (arith, within, i.sized, long);
      here = λ d lt.
          i.others (first + d) (omega (arith, at)) ∙ (ap (λ w. value_at w (first + d)) valued
          ∙ (get_or-map (λ (w : DriverState). w.value) all (first + d) no_driver U (omega (arith, lt, within))
          ∙ ap (λ (w : DriverState). w.value) (sym (same d lt))));
    }

-- what is gathered is touched from then on
pub update-of : (ds : List DriverState) (old begun new : Lists) → begun ≡ record old { gathered = begun.gathered } → length begun.gathered ≡ length old.sources
    → length old.touched ≡ length old.sources → AreNotedAll ds begun new → IsUpdate ds old (record new { touched = new.gathered })
update-of ds old begun new b room sized a = record {
  driving = a.driving;
  sources = a.sources ∙ ap (λ (l : Lists). l.sources) b;
  sized = a.room ∙ (room ∙ sym sized);
  still = λ n lt none.
      a.still n (subst (λ (k : ℕ). n < k) (sym (ap (λ (l : Lists). length l.sources) b)) lt) none ∙ ap (λ (l : Lists). net_from l n) b;
}

-- only one driver may have another value
only-value : (ds es : List DriverState) (k : ℕ) (v : Logic) → length es ≡ length ds → k < length ds → v ≡ (driver_at es k).value
    → ((d : ℕ) → (d ≡ k → ⊥) → (driver_at es d).value ≡ (driver_at ds d).value) → set (driver_values ds) k v ≡ driver_values es
only-value ds es k v long lt is others =
    same-everywhere (set (driver_values ds) k v) (driver_values es) (length-set (driver_values ds) k v ∙ (counted ds ∙ (sym long ∙ sym (counted es)))) go
  where
    counted : (xs : List DriverState) → length (driver_values xs) ≡ length xs
    counted xs = length-map xs (λ (w : DriverState). w.value)

    there : (d : ℕ) → d < length es → value_at (driver_values es) d ≡ (driver_at es d).value
    there d below = get_or-map (λ (w : DriverState). w.value) es d no_driver U below

    decide : (d : ℕ) (b : Bool) → eqb d k ≡ b → d < length es → value_at (set (driver_values ds) k v) d ≡ value_at (driver_values es) d
    decide d true e inside =
        let same : d ≡ k = grind (arith, nat_tests) in
        subst (λ (m : ℕ). value_at (set (driver_values ds) k v) m ≡ value_at (driver_values es) m) (sym same)
        (get_or-set_same (driver_values ds) k v U (omega (arith, lt, counted ds)) ∙ (is ∙ sym (there k (omega (arith, lt, long)))))
    decide d false e inside =
        let apart : d ≡ k → ⊥ = grind (arith, nat_tests) in
        get_or-set_other (driver_values ds) k d v U apart
        ∙ (get_or-map (λ (w : DriverState). w.value) ds d no_driver U (omega (arith, inside, long)) ∙ (sym (others d apart) ∙ sym (there d inside)))

    go : (d : ℕ) → d < length (set (driver_values ds) k v) → value_at (set (driver_values ds) k v) d ≡ value_at (driver_values es) d
    go d below = decide d (eqb d k) refl (omega (arith, below, length-set (driver_values ds) k v, counted ds, long))

pub update-alone : (time number : ℕ) (value : Logic) (os ps : List Owned) (old new : Lists) → old.driving ≡ driver_values (all_drivers os)
    → IsOnlyTaken time number value os ps → IsNotedAlone number value old new → IsUpdate (all_drivers ps) old new
update-alone time number value os ps old new valued only noted = record {
  driving = noted.driving ∙ (ap (λ (l : List Logic). set l number value) valued
      ∙ only-value (all_drivers os) (all_drivers ps) number value
      (ap (λ (own : List Owned). length (all_drivers own)) only.taken ∙ count-taken time os) only.within only.value_is only.others);
  sources = noted.sources;
  sized = noted.sized;
  still = noted.still;
}
