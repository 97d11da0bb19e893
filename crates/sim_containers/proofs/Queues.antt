-- The steps of a queue.
use Rattle.std.proofs.Common.{ℕ, zero, suc, ◌<◌, ◌≤◌, ◌≡◌, ◌≢◌, eqb, Bool, true, false, cond, List, [], ◌∷◌, length, set, refl, ap, sym, ◌∙◌, subst, arith}
use Rattle.std.proofs.Common.{get_or, inl, inr, ◌⊎◌, Option, None, Some}
use Rattle.std.proofs.Math.ListN.{replicate}
use Rattle.std.proofs.lemmas.Bool.Decides.{nat_tests}
use Rattle.std.proofs.lemmas.List.{ext_get_or, get_or-set_same, get_or-set_other, length-set, length-map, map-set, set-get_or}
use Rattle.std.proofs.lemmas.Option.{same_Some}
use Rattle.std.specs.BinaryHeap.{IsHeap}
use Rattle.sim_containers.specs.Words.{IsOnly, NoneFrom}
use Rattle.sim_containers.specs.Numbers.{is_in}
use Rattle.sim_containers.specs.Times.{due_at, is_at, time_of, clear, cleared, those_at}
use Rattle.sim_containers.specs.Entries.{Entry, entry_cmp, those_later, HasLiveTop, IsQueue, StandsBut}
use Rattle.sim_containers.proofs.Bits.{not_both}
use Rattle.sim_containers.proofs.Ranges.{count, each_passes, stands}
use Rattle.sim_containers.proofs.Heaps.{at_from_time, none_in_empty, stands_with}
use Rattle.sim_containers.proofs.Sets.{in_none, member_within}
use Rattle.sim_containers.proofs.Taking.{cleared_time, in_those_at}

-- no driver has a time
pub no_time : (n d t : ℕ) (times : List (Option ℕ)) → times ≡ replicate n None → time_of times d ≡ Some t → ⊥
no_time n d t times e q = go n d (ap (λ (ts : List (Option ℕ)). time_of ts d) (sym e) ∙ q)
  where
    go : (n d : ℕ) → time_of (replicate n None) d ≡ Some t → ⊥
    go zero d h = cc
    go (suc n) zero h = cc
    go (suc n) (suc d) h = go n d h

pub none_at : (time n : ℕ) → those_at time (replicate n None) ≡ replicate n false
none_at time zero = refl
none_at time (suc n) = ap (λ (l : List Bool). false ∷ l) (none_at time n)

-- ---- clearing one time and another

clear_both : (a b : ℕ) (o : Option ℕ) → clear a (clear b o) ≡ clear b (clear a o)
clear_both a b o = go (is_at a o) (is_at b o) refl refl
  where
    go : (x y : Bool) → is_at a o ≡ x → is_at b o ≡ y → clear a (clear b o) ≡ clear b (clear a o)
    go true true p q = rw p (rw q refl)
    go true false p q = rw p (rw q (rw p refl))
    go false true p q = rw p (rw q refl)
    go false false p q = rw p (rw q (rw p refl))

clear_again : (a : ℕ) (o : Option ℕ) → clear a (clear a o) ≡ clear a o
clear_again a o = go (is_at a o) refl
  where
    go : (x : Bool) → is_at a o ≡ x → clear a (clear a o) ≡ clear a o
    go true p = rw p refl
    go false p = rw p (rw p refl)

cleared_both : (a b : ℕ) (times : List (Option ℕ)) → cleared a (cleared b times) ≡ cleared b (cleared a times)
cleared_both a b [] = refl
cleared_both a b (x ∷ xs) = λ i. clear_both a b x i ∷ cleared_both a b xs i

cleared_again : (a : ℕ) (times : List (Option ℕ)) → cleared a (cleared a times) ≡ cleared a times
cleared_again a [] = refl
cleared_again a (x ∷ xs) = λ i. clear_again a x i ∷ cleared_again a xs i

-- no driver has the time
none_to_clear : (a : ℕ) (times : List (Option ℕ)) → ((d : ℕ) → is_at a (time_of times d) ≡ false) → cleared a times ≡ times
none_to_clear a [] none = refl
none_to_clear a (x ∷ xs) none =
    λ i. ap (λ (b : Bool). cond b None x) (none 0) i ∷ none_to_clear a xs (λ d. none (suc d)) i

none_of_empty : (a : ℕ) (times : List (Option ℕ)) (n : ℕ) → those_at a times ≡ replicate n false → (d : ℕ) → is_at a (time_of times d) ≡ false
none_of_empty a times n e d = sym (in_those_at a times d) ∙ (ap (λ (set' : List Bool). is_in set' d) e ∙ in_none n d)

empty_of_none : (a : ℕ) (times : List (Option ℕ)) → ((d : ℕ) → is_at a (time_of times d) ≡ false) → those_at a times ≡ replicate (length times) false
empty_of_none a [] none = refl
empty_of_none a (x ∷ xs) none = λ i. none 0 i ∷ empty_of_none a xs (λ d. none (suc d)) i

-- the time of a driver
pub at_cleared : (time : ℕ) (times : List (Option ℕ)) (d : ℕ) → time_of (cleared time times) d ≡ clear time (time_of times d)
at_cleared time [] d = refl
at_cleared time (x ∷ xs) zero = refl
at_cleared time (x ∷ xs) (suc d) = at_cleared time xs d

pub still_there : (a : ℕ) (times : List (Option ℕ)) (d t : ℕ) → time_of times d ≡ Some t → t ≢ a → time_of (cleared a times) d ≡ Some t
still_there a times d t e other =
    let differ : eqb t a ≡ false = grind (arith, nat_tests) in
    at_cleared a times d ∙ (ap (clear a) e ∙ ap (λ (b : Bool). cond b None (Some t)) differ)

-- ---- a new queue

cleared_none : (a n : ℕ) → cleared a (replicate n None) ≡ replicate n None
cleared_none a zero = refl
cleared_none a (suc n) = ap (λ (l : List (Option ℕ)). None ∷ l) (cleared_none a n)

pub empty_queue : (n now later : ℕ) (times : List (Option ℕ)) (front laters : List Bool) (items : List Entry) → times ≡ replicate n None
    → front ≡ replicate n false → laters ≡ replicate n false → items ≡ []
    → IsHeap entry_cmp items → IsQueue times now later front laters items
empty_queue n now later times front laters items e f l none order = record {
  front_is = f ∙ sym (ap (those_at now) e ∙ none_at now n);
  later_is = l ∙ sym (ap (those_later now later) e ∙ (ap (those_at later) (cleared_none now n) ∙ none_at later n));
  order = order;
  stands = λ d t q _ _. absurd (no_time n d t times e q);
  live = subst (λ (l : List Entry). HasLiveTop times l) (sym none) tt;
}

-- a time is set
pub put_at : (now : ℕ) (times : List (Option ℕ)) (front new : List Bool) (driver : ℕ) (time : Option ℕ) (b : Bool) → front ≡ those_at now times
    → b ≡ is_at now time
    → new ≡ set front driver b → new ≡ those_at now (set times driver time)
put_at now times front new driver time b f is e =
    e ∙ ((λ i. set (f i) driver (is i)) ∙ sym (map-set (is_at now) times driver time))

pub put_later : (now later : ℕ) (times : List (Option ℕ)) (laters new : List Bool) (driver : ℕ) (time : Option ℕ) (b : Bool)
    → laters ≡ those_later now later times → b ≡ is_at later (clear now time)
    → new ≡ set laters driver b → new ≡ those_later now later (set times driver time)
put_later now later times laters new driver time b f is e =
    put_at later (cleared now times) laters new driver (clear now time) b f is e
    ∙ ap (those_at later) (sym (map-set (clear now) times driver time))

-- a driver that had no time joins the front
still_live : (times : List (Option ℕ)) (driver : ℕ) (time : Option ℕ) (items : List Entry) → time_of times driver ≡ None → HasLiveTop times items
    → HasLiveTop (set times driver time) items
still_live times driver time [] free live = tt
still_live times driver time (e ∷ es) free live = go (eqb e.0.1 driver) refl
  where
    go : (b : Bool) → eqb e.0.1 driver ≡ b → is_at e.0.0 (time_of (set times driver time) e.0.1) ≡ true
    go true q =
        let same : e.0.1 ≡ driver = grind (arith, nat_tests) in
        absurd (not_both (is_at e.0.0 (time_of times e.0.1)) (ap (λ (d : ℕ). is_at e.0.0 (time_of times d)) same ∙ ap (is_at e.0.0) free) live)
    go false q =
        let differ : e.0.1 ≢ driver = grind (arith, nat_tests) in
        ap (is_at e.0.0) (get_or-set_other times driver e.0.1 time None differ) ∙ live

pub joined_front : (times : List (Option ℕ)) (now later : ℕ) (front laters new : List Bool) (items : List Entry) (driver : ℕ)
    → time_of times driver ≡ None
    → new ≡ set front driver true → IsQueue times now later front laters items → IsQueue (set times driver (Some now)) now later new laters items
joined_front times now later front laters new items driver free is queue = record {
  front_is = put_at now times front new driver (Some now) true queue.front_is (sym (at_from_time now (Some now) refl)) is;
  later_is = queue.later_is ∙ ap (those_at later) (sym hidden);
  order = queue.order;
  stands = stands_with now later times items items driver (Some now) (λ e there. there)
      (λ t same other _. absurd (other (sym (same_Some now t same)))) queue.stands;
  live = still_live times driver (Some now) items free queue.live;
}
  where
    gone : clear now (Some now) ≡ None
    gone = ap (λ (b : Bool). cond b None (Some now)) (at_from_time now (Some now) refl)

    no_time_left : time_of (cleared now times) driver ≡ None
    no_time_left = at_cleared now times driver ∙ ap (clear now) free

    hidden : cleared now (set times driver (Some now)) ≡ cleared now times
    hidden = map-set (clear now) times driver (Some now)
        ∙ (ap (set (cleared now times) driver) (gone ∙ sym no_time_left) ∙ set-get_or (cleared now times) driver None)

set_false : (set' : List Bool) (d : ℕ) → is_in set' d ≡ false → set set' d false ≡ set'
set_false set' d none = ap (set set' d) (sym none) ∙ set-get_or set' d false

later_not_now : (now later : ℕ) (time : Option ℕ) → is_at later (clear now time) ≡ true → is_at now time ≡ false
later_not_now now later None there = refl
later_not_now now later (Some t) there = go (eqb t now) refl
  where
    go : (b : Bool) → eqb t now ≡ b → eqb t now ≡ false
    go true q =
        absurd (not_both (is_at later (clear now (Some t))) (ap (λ (b : Bool). is_at later (cond b None (Some t))) q) there)
    go false q = q

its_later : (now later t : ℕ) → is_at later (clear now (Some t)) ≡ true → t ≡ later
its_later now later t there =
    let differ : eqb t now ≡ false = later_not_now now later (Some t) there in
    let same : eqb t later ≡ true = sym (ap (λ (b : Bool). is_at later (cond b None (Some t))) differ) ∙ there in
    grind (arith, nat_tests)

-- a driver that had no time joins the other set
pub joined_later : (times : List (Option ℕ)) (now later : ℕ) (front laters new : List Bool) (items : List Entry) (driver : ℕ) (time : Option ℕ)
    → time_of times driver ≡ None → is_at later (clear now time) ≡ true
    → new ≡ set laters driver true → IsQueue times now later front laters items → IsQueue (set times driver time) now later front new items
joined_later times now later front laters new items driver time free there is queue = record {
  front_is = put_at now times front front driver time false queue.front_is (sym (later_not_now now later time there)) (sym (set_false front driver absent));
  later_is = put_later now later times laters new driver time true queue.later_is (sym there) is;
  order = queue.order;
  stands = stands_with now later times items items driver time (λ e here. here)
      (λ t same _ beyond. absurd (beyond (its_later now later t (ap (λ (o : Option ℕ). is_at later (clear now o)) (sym same) ∙ there)))) queue.stands;
  live = still_live times driver time items free queue.live;
}
  where
    absent : is_in front driver ≡ false
    absent = ap (λ (set' : List Bool). is_in set' driver) queue.front_is ∙ (in_those_at now times driver ∙ ap (is_at now) free)

-- the time of the other set may change while nothing is beyond the front
pub chosen : (times : List (Option ℕ)) (now later time : ℕ) (front laters : List Bool) (items : List Entry)
    → laters ≡ replicate (length laters) false → items ≡ [] → IsQueue times now later front laters items → IsQueue times now time front laters items
chosen times now later time front laters items empty none queue = record {
  front_is = queue.front_is;
  later_is = empty ∙ (ap (λ (n : ℕ). replicate n false) counted ∙ sym (empty_of_none time (cleared now times) (λ d. absent d)));
  order = queue.order;
  stands = λ d t e other _. absurd (nothing d t e other);
  live = queue.live;
}
  where
    counted : length laters ≡ length (cleared now times)
    counted = ap length queue.later_is ∙ length-map (cleared now times) (is_at later)

    not_later : (d : ℕ) → is_at later (time_of (cleared now times) d) ≡ false
    not_later = none_of_empty later (cleared now times) (length laters) (sym queue.later_is ∙ empty)

    nothing : (d t : ℕ) → time_of times d ≡ Some t → t ≢ now → ⊥
    nothing d t e other = go (eqb t later) refl
      where
        hidden : time_of (cleared now times) d ≡ Some t
        hidden = still_there now times d t e other

        go : (b : Bool) → eqb t later ≡ b → ⊥
        go true q =
            let same : t ≡ later = grind (arith, nat_tests) in
            not_both (is_at later (time_of (cleared now times) d)) (not_later d)
            (at_from_time later (time_of (cleared now times) d) (hidden ∙ ap Some same))
        go false q =
            let differ : t ≢ later = grind (arith, nat_tests) in
            none_in_empty items _ (ap length none) (queue.stands d t e other differ)

    absent : (d : ℕ) → is_at time (time_of (cleared now times) d) ≡ false
    absent d = go (time_of (cleared now times) d) refl
      where
        go : (o : Option ℕ) → time_of (cleared now times) d ≡ o → is_at time o ≡ false
        go None q = refl
        go (Some t) q = let c = cleared_time now times d t q in absurd (nothing d t c.0 c.1)

-- the drivers of one time are cleared
pub none_left : (time n : ℕ) (times : List (Option ℕ)) → n ≡ length times → replicate n false ≡ those_at time (cleared time times)
none_left time n times e = ap (λ (k : ℕ). replicate k false) e ∙ go times
  where
    gone : (o : Option ℕ) → (b : Bool) → is_at time o ≡ b → is_at time (clear time o) ≡ false
    gone o true q = ap (λ (b : Bool). is_at time (cond b None o)) q
    gone o false q = ap (λ (b : Bool). is_at time (cond b None o)) q ∙ q

    go : (xs : List (Option ℕ)) → replicate (length xs) false ≡ those_at time (cleared time xs)
    go [] = refl
    go (x ∷ xs) = λ i. sym (gone x (is_at time x) refl) i ∷ go xs i

pub others_left : (time now : ℕ) (times : List (Option ℕ)) → time ≢ now → those_at now times ≡ those_at now (cleared time times)
others_left time now [] other = refl
others_left time now (x ∷ xs) other = λ i. same x (is_at time x) refl i ∷ others_left time now xs other i
  where
    differ : (o : Option ℕ) → is_at time o ≡ true → is_at now o ≡ false
    differ None q = refl
    differ (Some s) q = grind (arith, nat_tests)

    same : (o : Option ℕ) → (b : Bool) → is_at time o ≡ b → is_at now o ≡ is_at now (clear time o)
    same o true q = differ o q ∙ sym (ap (λ (b : Bool). is_at now (cond b None o)) q)
    same o false q = sym (ap (λ (b : Bool). is_at now (cond b None o)) q)

-- the loop that clears
pub all_cleared : (time : ℕ) (old new : List (Option ℕ)) (taken : List Bool) (from : ℕ) → length new ≡ length old
    → ((d : ℕ) → d < from → is_in taken d ≡ true → time_of new d ≡ None) → ((d : ℕ) → d < from → is_in taken d ≡ false → time_of new d ≡ time_of old d)
    → ((d : ℕ) → from ≤ d → time_of new d ≡ time_of old d) → NoneFrom (is_in taken) from → taken ≡ those_at time old → new ≡ cleared time old
all_cleared time old new taken from len gone others rest none is =
    let l : length (cleared time old) ≡ length old = length-map old (clear time) in
    ext_get_or None new (cleared time old) (omega arith) (λ d _. go d (is_in taken d) refl (side d from) ∙ sym (at_cleared time old d))
  where
    side : (a b : ℕ) → (a < b) ⊎ (b ≤ a)
    side a b = grind arith

    tells : (d : ℕ) (b : Bool) → is_in taken d ≡ b → is_at time (time_of old d) ≡ b
    tells d b q = sym (in_those_at time old d) ∙ (ap (λ (set' : List Bool). is_in set' d) (sym is) ∙ q)

    kept : (d : ℕ) → is_in taken d ≡ false → time_of old d ≡ clear time (time_of old d)
    kept d q = sym (ap (λ (b : Bool). cond b None (time_of old d)) (tells d false q))

    go : (d : ℕ) (b : Bool) → is_in taken d ≡ b → (d < from) ⊎ (from ≤ d) → time_of new d ≡ clear time (time_of old d)
    go d true q (inl l) = gone d l q ∙ sym (ap (λ (b : Bool). cond b None (time_of old d)) (tells d true q))
    go d true q (inr le) = absurd (not_both (is_in taken d) (none d le) q)
    go d false q (inl l) = others d l q ∙ kept d q
    go d false q (inr le) = rest d le ∙ kept d q

-- if those in a list are cleared, and no others
pub listed_cleared : (time : ℕ) (old new : List (Option ℕ)) (drivers : List ℕ) → drivers ≡ due_at time old → length new ≡ length old
    → ((k : ℕ) → k < length drivers → time_of new (get_or drivers k 0) ≡ None)
    → ((d : ℕ) → ((k : ℕ) → k < length drivers → get_or drivers k 0 ≢ d) → time_of new d ≡ time_of old d) → new ≡ cleared time old
listed_cleared time old new drivers e len gone others =
    let l : length (cleared time old) ≡ length old = length-map old (clear time) in
    ext_get_or None new (cleared time old) (omega (arith, l, len)) (λ d _. go d (is_in (those_at time old) d) refl ∙ sym (at_cleared time old d))
  where
    go : (d : ℕ) (b : Bool) → is_in (those_at time old) d ≡ b → time_of new d ≡ clear time (time_of old d)
    go d true q =
        let at = stands (is_in (those_at time old)) d (length (those_at time old)) (member_within (those_at time old) d q) q in
        let k = count (is_in (those_at time old)) d in
        let named : get_or drivers k 0 ≡ d = ap (λ (xs : List ℕ). get_or xs k 0) e ∙ at.1 in
        ap (time_of new) (sym named) ∙ (gone k (omega (arith, at.0, ap length e))
        ∙ sym (ap (λ (b : Bool). cond b None (time_of old d)) (sym (in_those_at time old d) ∙ q)))
    go d false q =
        others d (λ k lt is. not_both (is_in (those_at time old) d) q
        (ap (is_in (those_at time old)) (sym is ∙ ap (λ (xs : List ℕ). get_or xs k 0) e)
        ∙ each_passes (is_in (those_at time old)) (length (those_at time old)) k (omega (arith, lt, ap length e))))
        ∙ sym (ap (λ (b : Bool). cond b None (time_of old d)) (sym (in_those_at time old d) ∙ q))

-- ---- the sets after one time is cleared

pub stands_cleared : (now later time : ℕ) (times : List (Option ℕ)) (items : List Entry) → StandsBut now later times items
    → StandsBut now later (cleared time times) items
stands_cleared now later time times items s d t e other beyond = s d t (cleared_time time times d t e).0 other beyond

pub front_taken : (now later : ℕ) (times : List (Option ℕ)) → those_later now later times ≡ those_later now later (cleared now times)
front_taken now later times = ap (those_at later) (sym (cleared_again now times))

pub later_taken : (now later n : ℕ) (times : List (Option ℕ)) → n ≡ length times → replicate n false ≡ those_later now later (cleared later times)
later_taken now later n times e =
    none_left later n (cleared now times) (e ∙ sym (length-map times (clear now))) ∙ ap (those_at later) (cleared_both later now times)

pub others_taken : (now later time : ℕ) (times : List (Option ℕ)) → time ≢ later
    → those_later now later times ≡ those_later now later (cleared time times)
others_taken now later time times other =
    others_left time later (cleared now times) other ∙ ap (those_at later) (cleared_both time now times)

pub all_later : (now later : ℕ) (times : List (Option ℕ)) → later ≢ now → those_later now later times ≡ those_at later times
all_later now later times other = sym (others_left now later times (λ e. other (sym e)))

pub later_kept : (now later : ℕ) (time : Option ℕ) → later ≢ now → is_at later time ≡ is_at later (clear now time)
later_kept now later None other = refl
later_kept now later (Some t) other = go (eqb t now) refl
  where
    go : (e : Bool) → eqb t now ≡ e → eqb t later ≡ is_at later (cond e None (Some t))
    go true r = grind (arith, nat_tests)
    go false r = refl

pub later_gone : (now later : ℕ) (time : Option ℕ) → later ≡ now → false ≡ is_at later (clear now time)
later_gone now later None same = refl
later_gone now later (Some t) same = go (eqb t now) refl
  where
    go : (e : Bool) → eqb t now ≡ e → false ≡ is_at later (cond e None (Some t))
    go true r = refl
    go false r = grind (arith, nat_tests)

-- the time of an empty front may change
pub turned : (times : List (Option ℕ)) (now later time next : ℕ) (front laters : List Bool) (items : List Entry)
    → front ≡ those_at now (cleared time times) → laters ≡ those_later now later (cleared time times)
    → IsHeap entry_cmp items
    → StandsBut now later (cleared time times) items → HasLiveTop (cleared time times) items
    → (next ≡ now) ⊎ ((next ≡ time) × (front ≡ replicate (length front) false))
    → IsQueue (cleared time times) next later front laters items
turned times now later time next front laters items f g order stands live (inl same) =
    subst (λ (k : ℕ). IsQueue (cleared time times) k later front laters items) (sym same)
    (record { front_is = f; later_is = g; order = order; stands = stands; live = live })
turned times now later time next front laters items f g order stands live (inr (same, empty)) =
    let a : length front ≡ length (cleared time times) = ap length f ∙ length-map (cleared time times) (is_at now) in
    let b : length (cleared time times) ≡ length times = length-map times (clear time) in
    subst (λ (k : ℕ). IsQueue (cleared time times) k later front laters items) (sym same) (record {
      front_is = empty ∙ none_left time (length front) times (a ∙ b);
      later_is = g ∙ ap (those_at later) (none_to_clear now (cleared time times) none ∙ sym (cleared_again time times));
      order = order;
      stands = λ d t e _ beyond. stands d t e (λ now_is. not_now d t e now_is) beyond;
      live = live;
    })
  where
    none : (d : ℕ) → is_at now (time_of (cleared time times) d) ≡ false
    none = none_of_empty now (cleared time times) (length front) (sym f ∙ empty)

    not_now : (d t : ℕ) → time_of (cleared time times) d ≡ Some t → t ≡ now → ⊥
    not_now d t e now_is =
        not_both (is_at now (time_of (cleared time times) d)) (none d) (at_from_time now (time_of (cleared time times) d) (e ∙ ap Some now_is))

-- ---- the only driver at a time is taken

pub only_cleared : (time : ℕ) (times : List (Option ℕ)) (driver : ℕ) → IsOnly (is_in (those_at time times)) driver
    → set times driver None ≡ cleared time times
only_cleared time times driver only =
    let a : length (set times driver None) ≡ length times = length-set times driver None in
    let b : length (cleared time times) ≡ length times = length-map times (clear time) in
    ext_get_or None (set times driver None) (cleared time times) (omega arith) (λ d _. go d (eqb d driver) refl ∙ sym (at_cleared time times d))
  where
    within : driver < length times
    within =
        let l : length (those_at time times) ≡ length times = length-map times (is_at time) in
        let w : driver < length (those_at time times) = member_within (those_at time times) driver only.passes in
        omega arith

    go : (d : ℕ) (b : Bool) → eqb d driver ≡ b → time_of (set times driver None) d ≡ clear time (time_of times d)
    go d true q =
        let same : d ≡ driver = grind (arith, nat_tests) in
        ap (time_of (set times driver None)) same ∙ (get_or-set_same times driver None None within
        ∙ (sym (ap (λ (b : Bool). cond b None (time_of times driver)) (sym (in_those_at time times driver) ∙ only.passes))
        ∙ ap (λ (k : ℕ). clear time (time_of times k)) (sym same)))
    go d false q =
        let differ : d ≢ driver = grind (arith, nat_tests) in
        get_or-set_other times driver d None None differ
        ∙ sym (ap (λ (b : Bool). cond b None (time_of times d)) (sym (in_those_at time times d) ∙ only.others d differ))

-- if it is the only one in the set of that time
pub is_alone : (times : List (Option ℕ)) (now later time driver : ℕ) (front laters : List Bool) (items : List Entry)
    → IsQueue times now later front laters items → (time ≡ now → IsOnly (is_in front) driver)
    → (time ≢ now → (time ≡ later) × IsOnly (is_in laters) driver) → IsOnly (is_in (those_at time times)) driver
is_alone times now later time driver front laters items queue first second = go (eqb time now) refl
  where
    go : (b : Bool) → eqb time now ≡ b → IsOnly (is_in (those_at time times)) driver
    go true q =
        let same : time ≡ now = grind (arith, nat_tests) in
        subst (λ (set' : List Bool). IsOnly (is_in set') driver) (queue.front_is ∙ ap (λ (t : ℕ). those_at t times) (sym same)) (first same)
    go false q =
        let differ : time ≢ now = grind (arith, nat_tests) in
        let found = second differ in
        subst (λ (set' : List Bool). IsOnly (is_in set') driver)
        (queue.later_is ∙ (all_later now later times (λ e. differ (found.0 ∙ e)) ∙ ap (λ (t : ℕ). those_at t times) (sym found.0))) found.1

-- the sets that are left
pub sets_left : (times : List (Option ℕ)) (now later time : ℕ) (front laters front' laters' : List Bool) (items : List Entry)
    → IsQueue times now later front laters items → (time ≢ now → time ≡ later)
    → (time ≡ now → (front' ≡ replicate (length front) false) × (laters' ≡ laters))
    → (time ≢ now → (front' ≡ front) × (laters' ≡ replicate (length laters) false))
    → (front' ≡ those_at now (cleared time times)) × (laters' ≡ those_later now later (cleared time times))
sets_left times now later time front laters front' laters' items queue which first second = go (eqb time now) refl
  where
    front_sized : length front ≡ length times
    front_sized = ap length queue.front_is ∙ length-map times (is_at now)

    later_sized : length laters ≡ length times
    later_sized = ap length queue.later_is ∙ (length-map (cleared now times) (is_at later) ∙ length-map times (clear now))

    go : (b : Bool) → eqb time now ≡ b → (front' ≡ those_at now (cleared time times)) × (laters' ≡ those_later now later (cleared time times))
    go true q =
        let same : time ≡ now = grind (arith, nat_tests) in
        let left = first same in (
          left.0 ∙ (none_left time (length front) times front_sized ∙ ap (λ (t : ℕ). those_at t (cleared time times)) same),
          left.1 ∙ (queue.later_is ∙ (front_taken now later times ∙ ap (λ (t : ℕ). those_later now later (cleared t times)) (sym same))),
        )
    go false q =
        let differ : time ≢ now = grind (arith, nat_tests) in
        let left = second differ in (
          left.0 ∙ (queue.front_is ∙ others_left time now times differ),
          left.1 ∙ (later_taken now later (length laters) times later_sized
              ∙ ap (λ (t : ℕ). those_later now later (cleared t times)) (sym (which differ))),
        )
