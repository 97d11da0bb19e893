-- The values of drivers are noted, and the nets that these reach are gathered.
use Rattle.std.proofs.Common.{ℕ, ◌<◌, ◌≡◌, ◌≢◌, ◌||◌, Bool, true, false, List, [], ◌∷◌, length, get_or, set, map, refl, ap, sym, ◌∙◌, arith}
use Rattle.std.proofs.lemmas.Bool.Decides.{nat_tests}
use Rattle.std.proofs.lemmas.List.{get_or-set_other, length-set, set-get_or}
use Rattle.sim_logic.specs.declared.logic.Logic.{Logic}
use Rattle.sim_logic.specs.declared.logic.Logic.TheVariants.{U}
use Rattle.sim_logic.specs.Resolution.{resolved}
use Rattle.sim_flat_design.specs.declared.design.Source.{Source}
use Rattle.sim_flat_design.specs.declared.design.Source.TheVariants as source
use Rattle.sim_containers.specs.Numbers.{is_in}
use Rattle.sim_standard.specs.Orders.{is_among}
use Rattle.sim_store_nets.specs.Tallies.{TallyLists, noted}
use Rattle.sim_store_nets.specs.Nets.{is_driver, is_source, row_from, value_from}
use Rattle.sim_store_nets.specs.Lists.{Lists, AreListsOf, IsNoted, IsNotedAlone, net_from}
use Rattle.sim_store_nets.proofs.Noting.{tallied-noted}

no_left : (a b : Bool) → (a || b) ≡ false → a ≡ false
no_left false b e = refl
no_left true b e = absurd cc

no_right : (a b : Bool) → (a || b) ≡ false → b ≡ false
no_right false b e = e
no_right true b e = absurd cc

-- a source that is not the driver has the value that it had
source-other : (driving : List Logic) (s : Source) (d : ℕ) (v : Logic) → is_driver s d ≡ false → value_from (set driving d v) s ≡ value_from driving s
source-other driving (source.Driver k) d v e = let apart : k ≢ d = grind (arith, nat_tests) in get_or-set_other driving d k v U apart
source-other driving (source.Constant value) d v e = refl

values-other : (driving : List Logic) (row : List Source) (d : ℕ) (v : Logic) → is_source row d ≡ false
    → map (value_from (set driving d v)) row ≡ map (value_from driving) row
values-other driving [] d v e = refl
values-other driving (s ∷ row) d v e =
    ap (λ w. w ∷ map (value_from (set driving d v)) row) (source-other driving s d v (no_left (is_driver s d) (is_source row d) e))
    ∙ ap (λ ws. value_from driving s ∷ ws) (values-other driving row d v (no_right (is_driver s d) (is_source row d) e))

-- a net of which the driver is no source is resolved to the value that it had
pub row-other : (driving : List Logic) (row : List Source) (d : ℕ) (v : Logic) → is_source row d ≡ false
    → row_from (set driving d v) row ≡ row_from driving row
row-other driving row d v e = ap resolved (values-other driving row d v e)

-- a net that is not among those of the driver
pub unreached : {l : Lists} {fan_out : List (List ℕ)} {tallies : TallyLists} → AreListsOf l fan_out tallies → (d n : ℕ) (v : Logic) → d < length l.driving
    → is_among (get_or fan_out d []) n ≡ false → row_from (set l.driving d v) (get_or l.sources n []) ≡ net_from l n
unreached {l} i d n v lt none =
    row-other l.driving (get_or l.sources n []) d v (sym (i.fanned n d (omega (arith, lt, i.fan_out_count))) ∙ none)

pub unreached-or : {l : Lists} {fan_out : List (List ℕ)} {tallies : TallyLists} → AreListsOf l fan_out tallies → (d n : ℕ) (v : Logic) (was now : Bool)
    → d < length l.driving → now ≡ (is_among (get_or fan_out d []) n || was) → now ≡ false
    → (was ≡ false) × (row_from (set l.driving d v) (get_or l.sources n []) ≡ net_from l n)
unreached-or {l} {fan_out} i d n v was now lt is none =
    let e : (is_among (get_or fan_out d []) n || was) ≡ false = sym is ∙ none in
    (no_right (is_among (get_or fan_out d []) n) was e, unreached i d n v lt (no_left (is_among (get_or fan_out d []) n) was e))

-- the lists with another value of the driver are right
pub noted-lists : {l : Lists} {fan_out : List (List ℕ)} {tallies : TallyLists} → AreListsOf l fan_out tallies → (d : ℕ) (v : Logic)
    (touched gathered : List Bool) (tallies' : TallyLists) → d < length l.driving → tallies' ≡ noted tallies d v → length touched ≡ length l.touched
    → length gathered ≡ length l.gathered
    → AreListsOf (record { sources = l.sources; driving = set l.driving d v; touched = touched; gathered = gathered }) fan_out tallies'
noted-lists {l} {fan_out} {tallies} i d v touched gathered tallies' lt et lt' lg = record {
  fan_out_count = i.fan_out_count ∙ sym (length-set l.driving d v);
  fanned = i.fanned;
  tallied = rw et (tallied-noted l.sources l.driving tallies d v lt i.tallied);
  sized = lt' ∙ i.sized;
  room = lg ∙ i.room;
}

-- the value is noted, among others
pub noted-one : {l : Lists} {fan_out : List (List ℕ)} {tallies : TallyLists} → AreListsOf l fan_out tallies → (d : ℕ) (v : Logic) (gathered : List Bool)
    → d < length l.driving → length gathered ≡ length l.gathered
    → ((n : ℕ) → n < length l.gathered → is_in gathered n ≡ (is_among (get_or fan_out d []) n || is_in l.gathered n))
    → IsNoted d v l (record { sources = l.sources; driving = set l.driving d v; touched = l.touched; gathered = gathered })
noted-one {l} i d v gathered lt long members = record {
  driving = refl;
  sources = refl;
  touched = refl;
  sized = long;
  still = λ n below none. unreached-or i d n v (is_in l.gathered n) (is_in gathered n) lt (members n (omega (arith, below, i.room))) none;
}

-- the value of the only driver is noted
pub noted-alone : {l : Lists} {fan_out : List (List ℕ)} {tallies : TallyLists} → AreListsOf l fan_out tallies → (d : ℕ) (v : Logic)
    (touched gathered : List Bool) → d < length l.driving → length touched ≡ length l.touched
    → ((n : ℕ) → n < length l.touched → is_in touched n ≡ is_among (get_or fan_out d []) n)
    → IsNotedAlone d v l (record { sources = l.sources; driving = set l.driving d v; touched = touched; gathered = gathered })
noted-alone {l} i d v touched gathered lt long members = record {
  driving = refl;
  sources = refl;
  sized = long;
  still = λ n below none. unreached i d n v lt (sym (members n (omega (arith, below, i.sized))) ∙ none);
}

-- the only driver has the value that it had
pub noted-same : (l : Lists) (d : ℕ) (v w : Logic) (touched gathered : List Bool) → w ≡ get_or l.driving d w → w ≡ v
    → length touched ≡ length l.touched
    → IsNotedAlone d v l (record { sources = l.sources; driving = l.driving; touched = touched; gathered = gathered })
noted-same l d v w touched gathered at is long = record {
  driving = sym (set-get_or l.driving d w) ∙ ap (λ (x : Logic). set l.driving d x) (sym at ∙ is);
  sources = refl;
  sized = long;
  still = λ n below none. refl;
}
