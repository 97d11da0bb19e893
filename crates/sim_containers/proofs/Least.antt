-- The least time is that of the top.
use Rattle.std.proofs.Common.{ℕ, zero, suc, ◌<◌, ◌≤◌, ◌≡◌, ◌≢◌, min, eqb, Bool, true, false, List, [], ◌∷◌, length, get_or, refl, ap, sym, ◌∙◌}
use Rattle.std.proofs.Common.{arith, inl, inr, ◌⊎◌, Option, None, Some, IfSome, IfNone, subst}
use Rattle.std.proofs.Math.ListN.{replicate}
use Rattle.std.proofs.lemmas.Bool.Decides.{nat_tests}
use Rattle.std.proofs.lemmas.Option.{same_Some}
use Rattle.std.specs.List.{Contains}
use Rattle.std.specs.Prelude.{MatchOption, ⊤}
use Rattle.sim_containers.specs.Numbers.{is_in}
use Rattle.sim_containers.specs.Times.{time_of, cleared, earlier, earliest}
use Rattle.sim_containers.specs.Entries.{Entry, entry, HasLiveTop, IsQueue}
use Rattle.sim_containers.proofs.Heaps.{at_from_time, none_in_empty, time_from_at}
use Rattle.sim_containers.proofs.Sets.{some_member}
use Rattle.sim_containers.proofs.Queues.{still_there}
use Rattle.sim_containers.proofs.Taking.{cleared_time, in_those_at}

-- if no driver has a time
pub earliest_of_none : (times : List (Option ℕ)) → ((d t : ℕ) → time_of times d ≡ Some t → ⊥) → earliest times ≡ None
earliest_of_none [] h = refl
earliest_of_none (None ∷ xs) h = earliest_of_none xs (λ d t. h (suc d) t)
earliest_of_none (Some s ∷ xs) h = absurd (h 0 s refl)

pub none_at_none : (times : List (Option ℕ)) → earliest times ≡ None → (d t : ℕ) → time_of times d ≡ Some t → ⊥
none_at_none [] e d t h = cc
none_at_none (None ∷ xs) e zero t h = cc
none_at_none (None ∷ xs) e (suc d) t h = none_at_none xs e d t h
none_at_none (Some s ∷ xs) e d t h = go (earliest xs) e
  where
    go : (o : Option ℕ) → earlier (Some s) o ≡ None → ⊥
    go None q = cc
    go (Some r) q = cc

-- a bound of all times
earliest_above : (times : List (Option ℕ)) (low : ℕ) → ((d t : ℕ) → time_of times d ≡ Some t → low ≤ t) → (s : ℕ) → earliest times ≡ Some s → low ≤ s
earliest_above [] low h s e = absurd cc
earliest_above (None ∷ xs) low h s e = earliest_above xs low (λ d t. h (suc d) t) s e
earliest_above (Some r ∷ xs) low h s e = go (earliest_above xs low (λ d t. h (suc d) t)) (earliest xs) refl e
  where
    go : ((p : ℕ) → earliest xs ≡ Some p → low ≤ p) → (o : Option ℕ) → earliest xs ≡ o → earlier (Some r) o ≡ Some s → low ≤ s
    go ih None q e' = let k : r ≡ s = same_Some r s e' in let l : low ≤ r = h 0 r refl in omega arith
    go ih (Some p) q e' =
        let k : min r p ≡ s = same_Some (min r p) s e' in
        let l : low ≤ r = h 0 r refl in
        let m : low ≤ p = ih p q in
        omega arith

-- the least time is one that a driver has and no time is below
pub earliest_from_least : (times : List (Option ℕ)) (d t : ℕ) → time_of times d ≡ Some t → ((e s : ℕ) → time_of times e ≡ Some s → t ≤ s)
    → earliest times ≡ Some t
earliest_from_least [] d t h low = absurd cc
earliest_from_least (x ∷ xs) zero t h low = rw h (go (earliest xs) refl)
  where
    go : (o : Option ℕ) → earliest xs ≡ o → earlier (Some t) o ≡ Some t
    go None q = refl
    go (Some p) q = let m = earliest_above xs t (λ e s. low (suc e) s) p q in ap Some (omega arith)
earliest_from_least (x ∷ xs) (suc d) t h low =
    rw (earliest_from_least xs d t h (λ e s. low (suc e) s)) (go x refl)
  where
    go : (o : Option ℕ) → x ≡ o → earlier o (Some t) ≡ Some t
    go None q = refl
    go (Some p) q = let m = low 0 p q in ap Some (omega arith)

pub least_from_earliest : (times : List (Option ℕ)) (t : ℕ) → earliest times ≡ Some t → (d s : ℕ) → time_of times d ≡ Some s → t ≤ s
least_from_earliest [] t e d s h = absurd cc
least_from_earliest (None ∷ xs) t e zero s h = absurd cc
least_from_earliest (None ∷ xs) t e (suc d) s h = least_from_earliest xs t e d s h
least_from_earliest (Some r ∷ xs) t e zero s h = go (earliest xs) e
  where
    go : (o : Option ℕ) → earlier (Some r) o ≡ Some t → t ≤ s
    go None q = let k : r ≡ t = same_Some r t q in let l : r ≡ s = same_Some r s h in omega arith
    go (Some p) q = let k : min r p ≡ t = same_Some (min r p) t q in let l : r ≡ s = same_Some r s h in omega arith
least_from_earliest (Some r ∷ xs) t e (suc d) s h = go (λ m p. least_from_earliest xs m p d s h) (earliest xs) refl e
  where
    go : ((m : ℕ) → earliest xs ≡ Some m → m ≤ s) → (o : Option ℕ) → earliest xs ≡ o → earlier (Some r) o ≡ Some t → t ≤ s
    go ih None p q = absurd (none_at_none xs p d s h)
    go ih (Some m) p q =
        let k : min r m ≡ t = same_Some (min r m) t q in
        let l : m ≤ s = ih m p in
        omega arith

-- ---- the least of three: of the two sets, and of the heap

-- a driver has the time, if there is one
abbrev pub IsReached : List (Option ℕ) → Option ℕ → Type 0
IsReached times None = ⊤
IsReached times (Some t) = (d : ℕ) × (time_of times d ≡ Some t)

-- a time is there, and not after this one
abbrev pub IsUpto : ℕ → Option ℕ → Type 0
IsUpto s None = ⊥
IsUpto s (Some t) = t ≤ s

earlier_reached : (times : List (Option ℕ)) (a b : Option ℕ) → IsReached times a → IsReached times b → IsReached times (earlier a b)
earlier_reached times None b x y = y
earlier_reached times (Some s) None x y = x
earlier_reached times (Some s) (Some t) x y = go (side s t)
  where
    side : (a b : ℕ) → (a ≤ b) ⊎ (b < a)
    side a b = grind arith

    go : (s ≤ t) ⊎ (t < s) → (d : ℕ) × (time_of times d ≡ Some (min s t))
    go (inl le) = let same : s ≡ min s t = omega arith in (x.0, x.1 ∙ ap Some same)
    go (inr lt) = let same : t ≡ min s t = omega arith in (y.0, y.1 ∙ ap Some same)

upto_left : (s : ℕ) (a b : Option ℕ) → IsUpto s a → IsUpto s (earlier a b)
upto_left s None b x = absurd x
upto_left s (Some t) None x = x
upto_left s (Some t) (Some r) x = omega arith

upto_right : (s : ℕ) (a b : Option ℕ) → IsUpto s b → IsUpto s (earlier a b)
upto_right s None b x = x
upto_right s (Some t) None x = absurd x
upto_right s (Some t) (Some r) x = omega arith

least_of_all : (times : List (Option ℕ)) (o : Option ℕ) → IsReached times o → ((d s : ℕ) → time_of times d ≡ Some s → IsUpto s o) → o ≡ earliest times
least_of_all times None reached upto = sym (earliest_of_none times (λ d s e. upto d s e))
least_of_all times (Some t) reached upto = sym (earliest_from_least times reached.0 t reached.1 (λ d s e. upto d s e))

-- the place of each driver's time: a set or the heap
place_of : (times : List (Option ℕ)) (now later : ℕ) (front laters : List Bool) (items : List Entry) → IsQueue times now later front laters items
    → (d s : ℕ) → time_of times d ≡ Some s
    → ((s ≡ now) × (is_in front d ≡ true)) ⊎ (((s ≡ later) × (is_in laters d ≡ true)) ⊎ Contains items (entry s d))
place_of times now later front laters items q d s e = go (eqb s now) refl
  where
    beyond : s ≢ now → (b : Bool) → eqb s later ≡ b → ((s ≡ later) × (is_in laters d ≡ true)) ⊎ Contains items (entry s d)
    beyond other true h =
        let same : s ≡ later = grind (arith, nat_tests) in
        let hidden : time_of (cleared now times) d ≡ Some s = still_there now times d s e other in
        inl (
          same,
          ap (λ (set' : List Bool). is_in set' d) q.later_is
              ∙ (in_those_at later (cleared now times) d ∙ at_from_time later (time_of (cleared now times) d) (hidden ∙ ap Some same)),
        )
    beyond other false h = let differ : s ≢ later = grind (arith, nat_tests) in inr (q.stands d s e other differ)

    go : (b : Bool) → eqb s now ≡ b → ((s ≡ now) × (is_in front d ≡ true)) ⊎ (((s ≡ later) × (is_in laters d ≡ true)) ⊎ Contains items (entry s d))
    go true h =
        let same : s ≡ now = grind (arith, nat_tests) in
        inl (same, ap (λ (set' : List Bool). is_in set' d) q.front_is ∙ (in_those_at now times d ∙ at_from_time now (time_of times d) (e ∙ ap Some same)))
    go false h = let differ : s ≢ now = grind (arith, nat_tests) in inr (beyond differ (eqb s later) refl)

-- the first entry has the time of its driver
top_driver : (times : List (Option ℕ)) (items : List Entry) (t : ℕ) → HasLiveTop times items → 0 < length items → ((x : Entry) → (get_or items 0 x).0.0 ≡ t)
    → (d : ℕ) × (time_of times d ≡ Some t)
top_driver times [] t live some first = absurd (omega arith)
top_driver times (y ∷ ys) t live some first = (y.0.1, time_from_at y.0.0 (time_of times y.0.1) live ∙ ap Some (first y))

-- what the first entry of the heap says
abbrev pub IsTop : List Entry → ℕ → Type 0
IsTop items t = (0 < length items) × ((x : Entry) → (get_or items 0 x).0.0 ≡ t)

abbrev pub IsBelow : List Entry → ℕ → Type 0
IsBelow items t = (s d : ℕ) → Contains items (entry s d) → t ≤ s

-- what is said of the time of a set
abbrev pub IsTimeOf : List Bool → ℕ → Option ℕ → Type 0
IsTimeOf set' time o = MatchOption o (set' ≡ replicate (length set') false) (λ t. (t ≡ time) × (set' ≡ replicate (length set') false → ⊥))

-- a set that is not empty has a member
member_of : (set' : List Bool) → (set' ≡ replicate (length set') false → ⊥) → (d : ℕ) × (is_in set' d ≡ true)
member_of [] some = absurd (some refl)
member_of (true ∷ xs) some = (0, refl)
member_of (false ∷ xs) some = let m = member_of xs (λ e. some (ap (λ (l : List Bool). false ∷ l) e)) in (suc m.0, m.1)

set_reached : (times : List (Option ℕ)) (set' : List Bool) (time : ℕ) (o : Option ℕ) → IsTimeOf set' time o
    → ((d : ℕ) → is_in set' d ≡ true → time_of times d ≡ Some time) → IsReached times o
set_reached times set' time None is each = tt
set_reached times set' time (Some t) is each = let m = member_of set' is.1 in (m.0, each m.0 m.1 ∙ ap Some (sym is.0))

set_upto : (set' : List Bool) (time : ℕ) (o : Option ℕ) (d : ℕ) → IsTimeOf set' time o → is_in set' d ≡ true → IsUpto time o
set_upto set' time None d is there = some_member set' d there is
set_upto set' time (Some t) d is there = let same : t ≡ time = is.0 in omega arith

top_reached : (times : List (Option ℕ)) (items : List Entry) (o : Option ℕ) → HasLiveTop times items → IfSome o (IsTop items) → IsReached times o
top_reached times items None live top = tt
top_reached times items (Some t) live top = top_driver times items t live top.0 top.1

top_upto : (items : List Entry) (o : Option ℕ) (s d : ℕ) → IfNone o (items ≡ []) → IfSome o (IsBelow items) → Contains items (entry s d) → IsUpto s o
top_upto items None s d none low c = none_in_empty items (entry s d) (ap length none) c
top_upto items (Some t) s d none low c = low s d c

pub least_time : (times : List (Option ℕ)) (now later : ℕ) (front laters : List Bool) (items : List Entry) (a b top : Option ℕ)
    → IsQueue times now later front laters items → IsTimeOf front now a → IsTimeOf laters later b
    → IfSome top (IsTop items) → IfNone top (items ≡ []) → IfSome top (IsBelow items)
    → earlier a (earlier b top) ≡ earliest times
least_time times now later front laters items a b top q is_a is_b some none low =
    least_of_all times (earlier a (earlier b top))
    (earlier_reached times a (earlier b top) (set_reached times front now a is_a in_front)
    (earlier_reached times b top (set_reached times laters later b is_b in_later) (top_reached times items top q.live some)))
    (λ d s e. go d s (place_of times now later front laters items q d s e))
  where
    in_front : (d : ℕ) → is_in front d ≡ true → time_of times d ≡ Some now
    in_front d m = time_from_at now (time_of times d) (sym (in_those_at now times d) ∙ (ap (λ (set' : List Bool). is_in set' d) (sym q.front_is) ∙ m))

    in_later : (d : ℕ) → is_in laters d ≡ true → time_of times d ≡ Some later
    in_later d m =
        let hidden : time_of (cleared now times) d ≡ Some later = time_from_at later (time_of (cleared now times) d)
        (sym (in_those_at later (cleared now times) d) ∙ (ap (λ (set' : List Bool). is_in set' d) (sym q.later_is) ∙ m)) in
        (cleared_time now times d later hidden).0

    go : (d s : ℕ) → ((s ≡ now) × (is_in front d ≡ true)) ⊎ (((s ≡ later) × (is_in laters d ≡ true)) ⊎ Contains items (entry s d))
        → IsUpto s (earlier a (earlier b top))
    go d s (inl r) = upto_left s a (earlier b top) (subst (λ (k : ℕ). IsUpto k a) (sym r.0) (set_upto front now a d is_a r.1))
    go d s (inr (inl r)) =
        upto_right s a (earlier b top) (upto_left s b top (subst (λ (k : ℕ). IsUpto k b) (sym r.0) (set_upto laters later b d is_b r.1)))
    go d s (inr (inr c)) = upto_right s a (earlier b top) (upto_right s b top (top_upto items top s d none low c))
