-- Drivers take their transactions, one by one, and their values are noted.
use Rattle.std.proofs.Common.{ℕ, zero, suc, ◌+◌, ◌-◌, ◌<◌, ◌≤◌, ◌≡◌, ◌≢◌, ◌++◌, ◌⊎◌, inl, inr, eqb, nat_lt, Bool, Option, Some, None, min, fold, true, false}
use Rattle.std.proofs.Common.{if◌then◌else◌, cond, List, [], ◌∷◌, length, set, take, drop, map, replicate, refl, ap, sym, ◌∙◌, subst, arith}
use Rattle.std.proofs.Math.Decide.{dec_lt}
use Rattle.std.proofs.lemmas.Bool.Decides.{nat_tests}
use Rattle.std.proofs.lemmas.List.{get_or-set_same, get_or-set_other, get_or_default, get_or_past, length-map, length-set, same_lists, take_at, drop_at}
use Rattle.sim_logic.specs.declared.logic.Logic.{Logic}
use Rattle.sim_logic.specs.declared.logic.Logic.TheVariants.{U}
use Rattle.sim_standard.specs.Drivers.{DriverState, Transaction, next_time, taken}
use Rattle.sim_standard.specs.State.{driver_at}
use Rattle.sim_standard.proofs.Names.{no_driver}
use Rattle.sim_containers.specs.Numbers.{is_in}
use Rattle.sim_containers.specs.RowArray.{joined}
use Rattle.sim_containers.specs.Times.{clear, cleared, earliest, is_at, those_at, time_of}
use Rattle.sim_containers.specs.Words.{IsNext, IsOnly}
use Rattle.sim_containers.proofs.Flat.{joined-map}
use Rattle.sim_containers.proofs.Least.{least_from_earliest, none_at_none}
use Rattle.sim_containers.proofs.Queues.{at_cleared}
use Rattle.sim_containers.proofs.Sets.{in_none}
use Rattle.sim_containers.proofs.Taking.{in_those_at}
use Rattle.sim_store_nets.specs.Lists.{Lists, IsNoted, net_from}
use Rattle.sim_store_nets.specs.Nets.{value_at}
use Rattle.sim_store_nets.proofs.Walks.{Walked, member_within, not_both, walk_start, walk_more}
use Rattle.sim_store_share.specs.PendingTimes.{Pending, AreTimes}
use Rattle.sim_store_share.specs.Rows.{with_item}
use Rattle.sim_store_share.specs.Shares.{time_at}
use Rattle.sim_store_share.specs.Taking.{AreListed, AreNoted, IsNoneBefore}
use Rattle.sim_store_share.proofs.Due.{earliest-next, first-of, first_times, keeps, least-of-times, time-of-first}
use Rattle.sim_store_share.proofs.Held.{no-time}
use Rattle.sim_store_share.proofs.Telling.{IsPut, put-here, put-other}
use Rattle.sim_store_share.proofs.Times.{least_bound, times}

-- ---- lists of lists

cons-is : {A : Type 0} (x y : A) (xs ys : List A) → x ∷ xs ≡ y ∷ ys → (x ≡ y) × (xs ≡ ys)
cons-is x y xs ys e = (cc, cc)

-- lists of lists with the same lengths and the same items in all are the same
pub same-items : {A : Type 0} (xss yss : List (List A)) → map length xss ≡ map length yss → joined xss ≡ joined yss → xss ≡ yss
same-items [] [] e f = refl
same-items [] (ys ∷ yss) e f = absurd cc
same-items (xs ∷ xss) [] e f = absurd cc
same-items (xs ∷ xss) (ys ∷ yss) e f =
    let l = cons-is (length xs) (length ys) (map length xss) (map length yss) e in
    let n = length ys in
    let front : xs ≡ ys = sym (take_at xs (joined xss) n l.0) ∙ (ap (take n) f ∙ take_at ys (joined yss) n refl) in
    let back : joined xss ≡ joined yss = sym (drop_at xs (joined xss) n l.0) ∙ (ap (drop n) f ∙ drop_at ys (joined yss) n refl) in
    ap (λ w. w ∷ xss) front ∙ ap (λ w. ys ∷ w) (same-items xss yss l.1 back)

-- each item changed
lengths-map : {A : Type 0} (f : A → A) (xss : List (List A)) → map length (map (map f) xss) ≡ map length xss
lengths-map f [] = refl
lengths-map f (xs ∷ xss) = ap (λ n. n ∷ map length (map (map f) xss)) (length-map xs f) ∙ ap (λ w. length xs ∷ w) (lengths-map f xss)

pub each-item : {A : Type 0} (f : A → A) (old now : List (List A)) → map length now ≡ map length old → joined now ≡ map f (joined old)
    → now ≡ map (map f) old
each-item f old now l e = same-items now (map (map f) old) (l ∙ sym (lengths-map f old)) (e ∙ sym (joined-map f old))

pub lengths-item : {A : Type 0} (xss : List (List A)) (n : ℕ) (x : A) → map length (with_item xss n x) ≡ map length xss
lengths-item [] n x = refl
lengths-item {A} (xs ∷ xss) n x = go (nat_lt n (length xs)) (lengths-item xss (n - length xs) x)
  where
    go : (b : Bool) → map length (with_item xss (n - length xs) x) ≡ map length xss
        → map length (if b then set xs n x ∷ xss else xs ∷ with_item xss (n - length xs) x) ≡ length xs ∷ map length xss
    go true rest = ap (λ m. m ∷ map length xss) (length-set xs n x)
    go false rest = ap (λ w. length xs ∷ w) rest

-- ---- drivers that are not due

pub not-at : (ds : List DriverState) (time d : ℕ) → IsNoneBefore time ds → time_at ds d ≢ Some time → taken time (driver_at ds d) ≡ driver_at ds d
not-at ds time d none apart = keeps time (driver_at ds d).value (driver_at ds d).pending later
  where
    later : (x : Transaction) (rest : List Transaction) → (driver_at ds d).pending ≡ x ∷ rest → x.0 ≢ time
    later x rest p = λ same.
        let m = fold min x.0 (times rest ++ []) in
        let is : time_at ds d ≡ Some m = first-of (driver_at ds d) x rest p in
        let low : m ≤ x.0 = least_bound x.0 (times rest ++ []) in
        let high : time ≤ m = none d m is in
        let at : m ≡ time = omega (arith, same, low, high) in
        apart (is ∙ ap Some at)

pub past-taken : (ds : List DriverState) (time d : ℕ) → length ds ≤ d → taken time (driver_at ds d) ≡ driver_at ds d
past-taken ds time d le =
    let none : driver_at ds d ≡ no_driver = get_or_past ds d no_driver le in
    ap (taken time) none ∙ sym none

-- ---- which drivers are due, as far as the times are known

clear-other : (time : ℕ) (o : Option ℕ) → is_at time o ≡ false → clear time o ≡ o
clear-other time o e = ap (λ b. cond b None o) e

at-itself : (time : ℕ) → is_at time (Some time) ≡ true
at-itself time = grind (arith, nat_tests)

-- all are known, and those with the time are removed
pub removed : (queue : List (Option ℕ)) (time : ℕ) (x : Option ℕ) (d : ℕ) → time_of queue d ≡ x → is_in (those_at time queue) d ≡ false
    → (x ≢ Some time) × (time_of (cleared time queue) d ≡ x)
removed queue time x d e out =
    let apart : is_at time (time_of queue d) ≡ false = sym (in_those_at time queue d) ∙ out in (
      λ q. not_both (is_at time (time_of queue d)) apart (ap (is_at time) (e ∙ q) ∙ at-itself time),
      at_cleared time queue d ∙ (clear-other time (time_of queue d) apart ∙ e),
    )

-- all are known, and later
pub later-apart : (queue : List (Option ℕ)) (time : ℕ) (x least : Option ℕ) (d : ℕ) → time_of queue d ≡ x → least ≡ earliest queue
    → ((s : ℕ) → least ≡ Some s → time < s) → x ≢ Some time
later-apart queue time x least d e is after = λ q. go (earliest queue) refl q
  where
    go : (o : Option ℕ) → earliest queue ≡ o → x ≡ Some time → ⊥
    go None f q = none_at_none queue f d time (e ∙ q)
    go (Some s) f q =
        let low = least_from_earliest queue s f d time (e ∙ q) in
        let high = after s (is ∙ f) in
        absurd (omega (arith, low, high))

-- ---- one after another

-- A driver took its transaction of a time, its time is known unless it is stale, and its value is noted.
pub record IsTaken (time first : ℕ) (old now : List DriverState) (p : Pending) (l : Lists) (d : ℕ) : Type 0 where
  pub driver : driver_at now d ≡ taken time (driver_at old d)
  pub known : is_in p.stale d ≡ false → time_of p.queue d ≡ time_at now d
  pub value : d < length old → value_at l.driving (first + d) ≡ (driver_at now d).value

pub none-taken : (time first : ℕ) (ds : List DriverState) (p : Pending) (l : Lists) (due : List Bool)
    → ((d : ℕ) → is_in due d ≡ false → (taken time (driver_at ds d) ≡ driver_at ds d) × (is_in p.stale d ≡ false → time_of p.queue d ≡ time_at ds d))
    → AreListed first ds l → Walked due 0 (IsTaken time first ds ds p l)
none-taken time first ds p l due others listed =
    walk_start due (λ d e. record { driver = sym (others d e).0; known = (others d e).1; value = listed.here d })

same-driver : (now now' : List DriverState) (d : ℕ) → driver_at now' d ≡ driver_at now d → time_at now' d ≡ time_at now d
same-driver now now' d e = ap (λ (w : DriverState). next_time (w ∷ [])) e

pub taken-more : (time first : ℕ) (old now now' : List DriverState) (p p' : Pending) (l l' : Lists) (due : List Bool) (from k : ℕ) (v : Logic)
    → Walked due from (IsTaken time first old now p l) → IsNext (is_in due) from k → k < length now → driver_at now k ≡ driver_at old k
    → now' ≡ set now k (taken time (driver_at now k)) → IsPut p p' k (next_time (taken time (driver_at now k) ∷ []))
    → v ≡ (taken time (driver_at now k)).value → first + k < length l.driving → IsNoted (first + k) v l l'
    → Walked due (k + 1) (IsTaken time first old now' p' l')
taken-more time first old now now' p p' l l' due from k v w next lt was en put ev within noted =
    walk_more w next
    (λ d apart i.
    let same : driver_at now' d ≡ driver_at now d = ap (λ w. driver_at w d) en ∙ get_or-set_other now k d (taken time (driver_at now k)) no_driver apart in
    let far : first + d ≢ first + k = λ q. apart (omega (arith, q)) in
    record {
      driver = same ∙ i.driver;
      known = put-other p p' k (next_time (taken time (driver_at now k) ∷ [])) put d (time_at now' d) apart
          (λ fresh. i.known fresh ∙ sym (same-driver now now' d same));
      value = λ below. ap (λ w. value_at w (first + d)) noted.driving ∙ (get_or-set_other l.driving (first + k) (first + d) v U far
          ∙ (i.value below ∙ ap (λ (w : DriverState). w.value) (sym same)));
    })
    (let here : driver_at now' k ≡ taken time (driver_at now k) =
    ap (λ w. driver_at w k) en ∙ get_or-set_same now k (taken time (driver_at now k)) no_driver lt in
    record {
      driver = here ∙ ap (taken time) was;
      known = λ fresh. put-here p p' k (next_time (taken time (driver_at now k) ∷ [])) put fresh ∙ ap (λ (w : DriverState). next_time (w ∷ [])) (sym here);
      value = λ below. ap (λ w. value_at w (first + k)) noted.driving ∙ (get_or-set_same l.driving (first + k) v U within
          ∙ (ev ∙ ap (λ (w : DriverState). w.value) (sym here)));
    })

pub rest-more : (time : ℕ) (old now now' : List DriverState) (from k : ℕ) → from ≤ k → ((d : ℕ) → from ≤ d → driver_at now d ≡ driver_at old d)
    → now' ≡ set now k (taken time (driver_at now k)) → (d : ℕ) → k + 1 ≤ d → driver_at now' d ≡ driver_at old d
rest-more time old now now' from k le rest en d lt =
    let apart : d ≢ k = omega arith in
    ap (λ w. driver_at w d) en ∙ (get_or-set_other now k d (taken time (driver_at now k)) no_driver apart ∙ rest d (omega arith))

-- the queue still has no time of those that are left
pub unset-more : (p p' : Pending) (due : List Bool) (from k : ℕ) (t : Option ℕ) → IsPut p p' k t → from ≤ k
    → ((d : ℕ) → from ≤ d → is_in due d ≡ true → is_in p.stale d ≡ false → time_of p.queue d ≡ None)
    → (d : ℕ) → k + 1 ≤ d → is_in due d ≡ true → is_in p'.stale d ≡ false → time_of p'.queue d ≡ None
unset-more p p' due from k t put le unset d lt here =
    let apart : d ≢ k = omega arith in
    put-other p p' k t put d None apart (unset d (omega arith) here)

-- The values of this many drivers were noted, of which the first has this number.
pub record IsRest (first count : ℕ) (old new : Lists) : Type 0 where
  pub sources : new.sources ≡ old.sources
  pub touched : new.touched ≡ old.touched
  pub sized : length new.driving ≡ length old.driving
  pub room : length new.gathered ≡ length old.gathered
  pub others : (k : ℕ) → (k < first) ⊎ (first + count ≤ k) → value_at new.driving k ≡ value_at old.driving k
  pub still : (n : ℕ) → n < length old.sources → is_in new.gathered n ≡ false → (is_in old.gathered n ≡ false) × (net_from new n ≡ net_from old n)

pub rest-start : (first count : ℕ) (l : Lists) → IsRest first count l l
rest-start first count l = record {
  sources = refl;
  touched = refl;
  sized = refl;
  room = refl;
  others = λ k side. refl;
  still = λ n lt none. (none, refl);
}

pub rest-noted : (first count : ℕ) (old l l' : Lists) (k : ℕ) (v : Logic) → IsRest first count old l → k < count → IsNoted (first + k) v l l'
    → IsRest first count old l'
rest-noted first count old l l' k v i lt noted = record {
  sources = noted.sources ∙ i.sources;
  touched = noted.touched ∙ i.touched;
  sized = ap length noted.driving ∙ (length-set l.driving (first + k) v ∙ i.sized);
  room = noted.sized ∙ i.room;
  others = λ j side. ap (λ w. value_at w j) noted.driving ∙ (get_or-set_other l.driving (first + k) j v U (apart j side) ∙ i.others j side);
  still = λ n below none.
      let now = noted.still n (subst (λ m. n < m) (sym (ap length i.sources)) below) none in
      let before = i.still n below now.0 in (before.0, now.1 ∙ before.1);
}
  where
    apart : (j : ℕ) → (j < first) ⊎ (first + count ≤ j) → j ≢ first + k
    apart j (inl h) = λ q. absurd (omega (arith, h, q))
    apart j (inr h) = λ q. absurd (omega (arith, h, q, lt))

-- lists of drivers are equal if each driver is
pub all-same : (now old : List DriverState) (time : ℕ) → length now ≡ length old → ((d : ℕ) → driver_at now d ≡ taken time (driver_at old d))
    → now ≡ map (taken time) old
all-same now old time l same =
    same_lists now (map (taken time) old) (l ∙ sym (length-map old (taken time)))
    (λ d x lt. get_or_default now d x no_driver lt ∙ (same d ∙ (sym (driver-taken time old d)
    ∙ get_or_default (map (taken time) old) d no_driver x (omega (arith, l, lt, length-map old (taken time))))))
  where
    driver-taken : (time : ℕ) (ds : List DriverState) (d : ℕ) → driver_at (map (taken time) ds) d ≡ taken time (driver_at ds d)
    driver-taken time [] d = refl
    driver-taken time (w ∷ ds) zero = refl
    driver-taken time (w ∷ ds) (suc d) = driver-taken time ds d

-- all of it
pub all-noted : (first : ℕ) (old now : List DriverState) (l l' : Lists) → AreListed first old l → length now ≡ length old
    → IsRest first (length old) l l' → ((d : ℕ) → d < length old → value_at l'.driving (first + d) ≡ (driver_at now d).value) → AreNoted first now l l'
all-noted first old now l l' listed long i here = record {
  sources = i.sources;
  touched = i.touched;
  sized = i.sized;
  room = i.room;
  listed = record {
    within = omega (arith, listed.within, long, i.sized);
    here = λ d lt. here d (omega (arith, lt, long));
  };
  others = λ k side. i.others k (subst (λ m. (k < first) ⊎ (first + m ≤ k)) long side);
  still = i.still;
}

-- one more number is a member
pub filled-more : (set' new : List Bool) (k : ℕ) → k < length set' → new ≡ set set' k true
    → ((d : ℕ) → d < k → is_in set' d ≡ true) → (d : ℕ) → d < k + 1 → is_in new d ≡ true
filled-more set' new k lt en below d at = go (eqb d k) refl
  where
    go : (b : Bool) → eqb d k ≡ b → is_in new d ≡ true
    go true e =
        let same : d ≡ k = grind (arith, nat_tests) in
        ap (λ (w : List Bool). is_in w d) en ∙ (ap (λ m. is_in (set set' k true) m) same ∙ get_or-set_same set' k true false lt)
    go false e =
        let apart : d ≢ k = grind (arith, nat_tests) in
        ap (λ (w : List Bool). is_in w d) en ∙ (get_or-set_other set' k d true false apart ∙ below d (omega (arith, at, apart)))

-- the set has all
pub none-left : {A : Type 0} (due : List Bool) (d : ℕ) → is_in due d ≡ true → is_in due d ≡ false → A
none-left due d here out = absurd (not_both (is_in due d) out here)

-- the two parts of what is known of the drivers that are not due
pub undue : (ds : List DriverState) (p : Pending) (due : List Bool) (time d : ℕ) → IsNoneBefore time ds → length due ≡ length ds
    → length p.queue ≡ length ds
    → ((d : ℕ) → d < length ds → is_in due d ≡ false → (time_at ds d ≢ Some time) × (is_in p.stale d ≡ false → time_of p.queue d ≡ time_at ds d))
    → is_in due d ≡ false → (taken time (driver_at ds d) ≡ driver_at ds d) × (is_in p.stale d ≡ false → time_of p.queue d ≡ time_at ds d)
undue ds p due time d none marked sized known out = elim (dec_lt d (length ds)) [
  | yes h ↦ (let here = known d h out in (not-at ds time d none here.0, here.1))
  | no h ↦ (
    past-taken ds time d (omega (arith, h)),
    λ fresh. get_or_past p.queue d None (omega (arith, h, sized)) ∙ sym (no-time ds d (omega (arith, h))),
  )
]

-- none has a transaction before the next time
pub none-before : (ds : List DriverState) (time : ℕ) → next_time ds ≡ Some time → IsNoneBefore time ds
none-before ds time e d t is = least-of-times (first_times ds) d time t (earliest-next ds ∙ e) (time-of-first ds d ∙ is)

pub none-before-as : (ds es : List DriverState) (time : ℕ) → ds ≡ es → IsNoneBefore time ds → IsNoneBefore time es
none-before-as ds es time e none = subst (IsNoneBefore time) e none

pub rows-taken : (time : ℕ) (dss : List (List DriverState)) → length (map (map (taken time)) dss) ≡ length dss
rows-taken time dss = length-map dss (map (taken time))

pub joined-taken : (time : ℕ) (old now : List (List DriverState)) → now ≡ map (map (taken time)) old → length (joined now) ≡ length (joined old)
joined-taken time old now e = ap length (ap joined e ∙ joined-map (taken time) old) ∙ length-map (joined old) (taken time)

-- a set without members
pub none-in : (stale : List Bool) → stale ≡ replicate (length stale) false → (d : ℕ) → is_in stale d ≡ false
none-in stale e d = ap (λ (w : List Bool). is_in w d) e ∙ in_none (length stale) d

-- ---- the only driver with a transaction of a time

pub length-item : {A : Type 0} (xss : List (List A)) (n : ℕ) (x : A) → length (with_item xss n x) ≡ length xss
length-item xss n x = sym (length-map (with_item xss n x) length) ∙ (ap length (lengths-item xss n x) ∙ length-map xss length)

module _ (ds : List DriverState) (p : Pending) (time n : ℕ) (current : (d : ℕ) → is_in p.stale d ≡ false) (known : AreTimes p (time_at ds))
    (only : IsOnly (is_in (those_at time p.queue)) n) where
  pub only-within : length p.queue ≡ length ds → n < length ds
  only-within sized =
      let within = member_within (those_at time p.queue) n only.passes in
      omega (arith, within, length-map p.queue (is_at time), sized)

  pub only-others : (d : ℕ) → d ≢ n → (time_at ds d ≢ Some time) × (time_of (cleared time p.queue) d ≡ time_at ds d)
  only-others d apart = removed p.queue time (time_at ds d) d (known d (current d)) (only.others d apart)

  pub only-each : (now : List DriverState) → IsNoneBefore time ds → n < length ds → now ≡ set ds n (taken time (driver_at ds n)) → (d : ℕ)
      → driver_at now d ≡ taken time (driver_at ds d)
  only-each now none within en d = go (eqb d n) refl
    where
      go : (b : Bool) → eqb d n ≡ b → driver_at now d ≡ taken time (driver_at ds d)
      go true e =
          let same : d ≡ n = grind (arith, nat_tests) in
          subst (λ (m : ℕ). driver_at now m ≡ taken time (driver_at ds m)) (sym same)
          (ap (λ w. driver_at w n) en ∙ get_or-set_same ds n (taken time (driver_at ds n)) no_driver within)
      go false e =
          let apart : d ≢ n = grind (arith, nat_tests) in
          ap (λ w. driver_at w d) en ∙ (get_or-set_other ds n d (taken time (driver_at ds n)) no_driver apart
          ∙ sym (not-at ds time d none (only-others d apart).0))

  pub only-same : (now : List DriverState) → IsNoneBefore time ds → n < length ds → now ≡ set ds n (taken time (driver_at ds n)) → now ≡ map (taken time) ds
  only-same now none within en =
      all-same now ds time (ap length en ∙ length-set ds n (taken time (driver_at ds n))) (only-each now none within en)

  -- the time of each other driver stays
  pub only-known : (now : List DriverState) → now ≡ set ds n (taken time (driver_at ds n)) → (d : ℕ) → d ≢ n
      → time_of (cleared time p.queue) d ≡ time_at now d
  only-known now en d apart =
      (only-others d apart).1
      ∙ ap (λ (w : DriverState). next_time (w ∷ [])) (sym (ap (λ w. driver_at w d) en ∙ get_or-set_other ds n d (taken time (driver_at ds n)) no_driver apart))

  pub only-value : (now : List DriverState) → now ≡ set ds n (taken time (driver_at ds n)) → (d : ℕ) → d ≢ n → (driver_at now d).value ≡ (driver_at ds d).value
  only-value now en d apart =
      ap (λ (w : DriverState). w.value) (ap (λ w. driver_at w d) en ∙ get_or-set_other ds n d (taken time (driver_at ds n)) no_driver apart)

  pub only-here : (now : List DriverState) → n < length ds → now ≡ set ds n (taken time (driver_at ds n)) → driver_at now n ≡ taken time (driver_at ds n)
  only-here now within en = ap (λ w. driver_at w n) en ∙ get_or-set_same ds n (taken time (driver_at ds n)) no_driver within
