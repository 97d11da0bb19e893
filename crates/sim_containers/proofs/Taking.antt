-- The steps of a walk that takes the drivers of one time out of the heap.
use Rattle.std.proofs.Common.{ℕ, zero, suc, ◌<◌, ◌≤◌, ◌≡◌, ◌≢◌, eqb, Bool, true, false, cond, List, [], ◌∷◌, length, set, refl, ap, sym, ◌∙◌, subst}
use Rattle.std.proofs.Common.{arith, inl, inr, ◌⊎◌, Option, None, Some}
use Rattle.std.proofs.lemmas.Bool.Decides.{nat_tests}
use Rattle.std.proofs.lemmas.List.{ext_get_or, get_or-set_same, get_or-set_other, length-map, length-set}
use Rattle.std.proofs.lemmas.List.Sorted.{Contains-permutation}
use Rattle.std.proofs.lemmas.Option.{same_Some}
use Rattle.std.specs.List.{Contains}
use Rattle.std.specs.List.Sorted.{IsPermutation}
use Rattle.sim_containers.specs.Numbers.{is_in}
use Rattle.sim_containers.specs.Times.{is_at, time_of, clear, cleared, those_at}
use Rattle.sim_containers.specs.Entries.{Entry, entry, is_live, IsTaking, NoneBefore, StandsBut}
use Rattle.sim_containers.proofs.Bits.{not_both}
use Rattle.sim_containers.proofs.Heaps.{at_from_time, first_or_behind, time_from_at, within_from_time}

-- the set of the drivers at a time
pub in_those_at : (time : ℕ) (times : List (Option ℕ)) (d : ℕ) → is_in (those_at time times) d ≡ is_at time (time_of times d)
in_those_at time [] d = refl
in_those_at time (x ∷ xs) zero = refl
in_those_at time (x ∷ xs) (suc d) = in_those_at time xs d

-- a live entry has the time
live_time : (times : List (Option ℕ)) (time : ℕ) (x : Entry) → NoneBefore time times → x.0.0 ≤ time → is_live times x ≡ true → x.0.0 ≡ time
live_time times time x none le live =
    let h : time ≤ x.0.0 = none x.0.1 x.0.0 (time_from_at x.0.0 (time_of times x.0.1) live) in omega arith

-- a stale entry is removed
pub stale_goes : (now later time : ℕ) (times : List (Option ℕ)) (taken : List Bool) (old new : List Entry) (x : Entry) → IsPermutation old (x ∷ new)
    → is_live times x ≡ false
    → IsTaking now later time times taken old → IsTaking now later time times taken new
stale_goes now later time times taken old new x p stale i = record {
  sized = i.sized;
  due = i.due;
  stands = λ d t e other beyond. go d t e (i.stands d t e other beyond);
}
  where
    impossible : (d t : ℕ) → time_of times d ≡ Some t → x ≡ entry t d → ⊥
    impossible d t e same =
        let live : is_live times (entry t d) ≡ true = at_from_time t (time_of times d) e in
        let dead : is_live times (entry t d) ≡ false = subst (λ (y : Entry). is_live times y ≡ false) same stale in
        cc

    go : (d t : ℕ) → time_of times d ≡ Some t → ((t ≡ time) × (is_in taken d ≡ true)) ⊎ Contains old (entry t d)
        → ((t ≡ time) × (is_in taken d ≡ true)) ⊎ Contains new (entry t d)
    go d t e (inl done) = inl done
    go d t e (inr there) = elim (first_or_behind x (entry t d) new (Contains-permutation old (x ∷ new) (entry t d) p there)) [
      | inl same ↦ absurd (impossible d t e same)
      | inr c ↦ inr c
    ]

-- a set with one more member
pub in_set : (set' : List Bool) (n : ℕ) → n < length set' → is_in (set set' n true) n ≡ true
in_set set' n l = get_or-set_same set' n true false l

cases_in_set : (set' : List Bool) (n d : ℕ) → is_in (set set' n true) d ≡ true → (d ≡ n) ⊎ (is_in set' d ≡ true)
cases_in_set set' n d here = go (eqb d n) refl
  where
    go : (b : Bool) → eqb d n ≡ b → (d ≡ n) ⊎ (is_in set' d ≡ true)
    go true q = inl (grind (arith, nat_tests))
    go false q = let differ : d ≢ n = grind (arith, nat_tests) in inr (sym (get_or-set_other set' n d true false differ) ∙ here)

still_in_set : (set' : List Bool) (n d : ℕ) → is_in set' d ≡ true → d < length set' → n < length set' → is_in (set set' n true) d ≡ true
still_in_set set' n d here l m = go (eqb d n) refl
  where
    go : (b : Bool) → eqb d n ≡ b → is_in (set set' n true) d ≡ true
    go true q = let same : d ≡ n = grind (arith, nat_tests) in ap (λ (k : ℕ). is_in (set set' n true) k) same ∙ in_set set' n m
    go false q = let differ : d ≢ n = grind (arith, nat_tests) in get_or-set_other set' n d true false differ ∙ here

-- a live entry is removed, and its driver is taken
pub live_goes : (now later time : ℕ) (times : List (Option ℕ)) (taken : List Bool) (old new : List Entry) (x : Entry) → IsPermutation old (x ∷ new)
    → NoneBefore time times
    → x.0.0 ≤ time → is_live times x ≡ true → IsTaking now later time times taken old → IsTaking now later time times (set taken x.0.1 true) new
live_goes now later time times taken old new x p none le live i =
    let len : length (set taken x.0.1 true) ≡ length taken = length-set taken x.0.1 true in
    record {
      sized = len ∙ i.sized;
      due = λ d here. due d (cases_in_set taken x.0.1 d here);
      stands = λ d t e other beyond. go d t e (i.stands d t e other beyond);
    }
  where
    at_time : x.0.0 ≡ time
    at_time = live_time times time x none le live

    its_time : time_of times x.0.1 ≡ Some time
    its_time = time_from_at x.0.0 (time_of times x.0.1) live ∙ ap Some at_time

    within : (d t : ℕ) → time_of times d ≡ Some t → d < length taken
    within d t e = let l = within_from_time times d t e in let s : length taken ≡ length times = i.sized in omega arith

    due : (d : ℕ) → (d ≡ x.0.1) ⊎ (is_in taken d ≡ true) → time_of times d ≡ Some time
    due d (inl same) = ap (time_of times) same ∙ its_time
    due d (inr before) = i.due d before

    at_entry : (d t : ℕ) → x ≡ entry t d → (t ≡ time) × (is_in (set taken x.0.1 true) d ≡ true)
    at_entry d t same =
        let a : x.0.0 ≡ t = ap (λ (y : Entry). y.0.0) same in
        let b : x.0.1 ≡ d = ap (λ (y : Entry). y.0.1) same in
        (sym a ∙ at_time, ap (λ (k : ℕ). is_in (set taken x.0.1 true) k) (sym b) ∙ in_set taken x.0.1 (within x.0.1 time its_time))

    go : (d t : ℕ) → time_of times d ≡ Some t → ((t ≡ time) × (is_in taken d ≡ true)) ⊎ Contains old (entry t d)
        → ((t ≡ time) × (is_in (set taken x.0.1 true) d ≡ true)) ⊎ Contains new (entry t d)
    go d t e (inl done) = inl (done.0, still_in_set taken x.0.1 d done.1 (within d t e) (within x.0.1 time its_time))
    go d t e (inr there) = elim (first_or_behind x (entry t d) new (Contains-permutation old (x ∷ new) (entry t d) p there)) [
      | inl same ↦ inl (at_entry d t same)
      | inr c ↦ inr c
    ]

-- the end, when all entries that are left are later
pub all_taken : (now later time : ℕ) (times : List (Option ℕ)) (taken : List Bool) (items : List Entry) → time ≢ now → time ≢ later → ((t d : ℕ)
    → Contains items (entry t d) → time < t)
    → IsTaking now later time times taken items → taken ≡ those_at time times
all_taken now later time times taken items other beyond after i =
    let l : length (those_at time times) ≡ length times = length-map times (is_at time) in
    let s : length taken ≡ length times = i.sized in
    ext_get_or false taken (those_at time times) (omega arith) (λ d _. go d (is_in taken d) refl ∙ sym (in_those_at time times d))
  where
    impossible : (d : ℕ) → is_in taken d ≡ false → ((time ≡ time) × (is_in taken d ≡ true)) ⊎ Contains items (entry time d) → ⊥
    impossible d q (inl r) = not_both (is_in taken d) q r.1
    impossible d q (inr c) = let h = after time d c in omega arith

    absent : (d : ℕ) → is_in taken d ≡ false → (b : Bool) → is_at time (time_of times d) ≡ b → false ≡ b
    absent d q false h = refl
    absent d q true h = absurd (impossible d q (i.stands d time (time_from_at time (time_of times d) h) other beyond))

    go : (d : ℕ) → (b : Bool) → is_in taken d ≡ b → is_in taken d ≡ is_at time (time_of times d)
    go d true q = q ∙ sym (at_from_time time (time_of times d) (i.due d q))
    go d false q = q ∙ absent d q (is_at time (time_of times d)) refl

-- the times once one of them was cleared
pub cleared_time : (time : ℕ) (times : List (Option ℕ)) (d t : ℕ) → time_of (cleared time times) d ≡ Some t → (time_of times d ≡ Some t) × (t ≢ time)
cleared_time time [] d t e = absurd cc
cleared_time time (x ∷ xs) zero t e = go x e
  where
    go : (o : Option ℕ) → clear time o ≡ Some t → (o ≡ Some t) × (t ≢ time)
    go None q = absurd cc
    go (Some s) q = on (eqb s time) refl q
      where
        on : (b : Bool) → eqb s time ≡ b → (cond b None (Some s)) ≡ Some t → (Some s ≡ Some t) × (t ≢ time)
        on true r q' = absurd cc
        on false r q' = let k : s ≡ t = same_Some s t q' in (q', grind (arith, nat_tests))
cleared_time time (x ∷ xs) (suc d) t e = cleared_time time xs d t e

pub others_stand : (now later time : ℕ) (times : List (Option ℕ)) (taken : List Bool) (items : List Entry) → IsTaking now later time times taken items
    → StandsBut now later (cleared time times) items
others_stand now later time times taken items i d t e other beyond =
    let c = cleared_time time times d t e in
    go c.1 (i.stands d t c.0 other beyond)
  where
    go : t ≢ time → ((t ≡ time) × (is_in taken d ≡ true)) ⊎ Contains items (entry t d) → Contains items (entry t d)
    go differ (inl r) = absurd (differ r.0)
    go differ (inr c) = c
