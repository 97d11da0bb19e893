-- What the entries of the heap say about the times.
use Rattle.std.proofs.Common.{ℕ, zero, suc, ◌<◌, ◌+◌, ◌≡◌, ◌≢◌, true, false, List, [], ◌∷◌, length, set, refl, ap, sym, subst, arith, inl, inr}
use Rattle.std.proofs.Common.{◌⊎◌, Option, None, Some}
use Rattle.std.proofs.lemmas.Bool.Decides.{nat_tests}
use Rattle.std.proofs.lemmas.List.Sorted.{Contains-permutation}
use Rattle.std.proofs.lemmas.Option.{same_Some}
use Rattle.std.specs.List.{Contains}
use Rattle.std.specs.List.Sorted.{IsPermutation}
use Rattle.sim_containers.specs.Times.{is_at, time_of}
use Rattle.sim_containers.specs.Entries.{Entry, entry, is_live, StandsBut}

in_front : {X : Type 0} (x : X) (xs : List X) → Contains (x ∷ xs) x
in_front x xs = (0, omega arith, refl)

behind : {X : Type 0} (x y : X) (xs : List X) → Contains xs y → Contains (x ∷ xs) y
behind x y xs (k, l, e) = (suc k, omega arith, e)

pub first_or_behind : {X : Type 0} (x y : X) (xs : List X) → Contains (x ∷ xs) y → (x ≡ y) ⊎ Contains xs y
first_or_behind x y xs (zero, l, e) = inl e
first_or_behind x y xs (suc k, l, e) = inr (k, omega arith, e)

pub none_in_empty : {X : Type 0} (xs : List X) (y : X) → length xs ≡ 0 → Contains xs y → ⊥
none_in_empty xs y e (k, l, q) = omega arith

-- the test of a time
pub at_from_time : (time : ℕ) (t : Option ℕ) → t ≡ Some time → is_at time t ≡ true
at_from_time time None e = absurd cc
at_from_time time (Some s) e = let h : s ≡ time = same_Some s time e in grind (arith, nat_tests)

pub time_from_at : (time : ℕ) (t : Option ℕ) → is_at time t ≡ true → t ≡ Some time
time_from_at time None e = absurd cc
time_from_at time (Some s) e = let h : s ≡ time = grind (arith, nat_tests) in ap Some h

-- a driver with a time is in range
pub within_from_time : (times : List (Option ℕ)) (d t : ℕ) → time_of times d ≡ Some t → d < length times
within_from_time [] d t e = absurd cc
within_from_time (x ∷ xs) zero t e = omega arith
within_from_time (x ∷ xs) (suc d) t e = let h = within_from_time xs d t e in omega arith

-- a stale entry may be removed
pub stands_without : (now later : ℕ) (times : List (Option ℕ)) (old new : List Entry) (x : Entry) → IsPermutation old (x ∷ new) → is_live times x ≡ false
    → StandsBut now later times old → StandsBut now later times new
stands_without now later times old new x p stale s d t e other beyond =
    elim (first_or_behind x (entry t d) new (Contains-permutation old (x ∷ new) (entry t d) p (s d t e other beyond))) [
      | inl same ↦ absurd (impossible same)
      | inr there ↦ there
    ]
  where
    impossible : x ≡ entry t d → ⊥
    impossible same =
        let live : is_live times (entry t d) ≡ true = at_from_time t (time_of times d) e in
        let dead : is_live times (entry t d) ≡ false = subst (λ (y : Entry). is_live times y ≡ false) same stale in
        cc

-- the times after one was set
set_time : (times : List (Option ℕ)) (driver : ℕ) (v : Option ℕ) (d t : ℕ) → time_of (set times driver v) d ≡ Some t
    → ((d ≡ driver) × (v ≡ Some t)) ⊎ (time_of times d ≡ Some t)
set_time [] driver v d t e = absurd cc
set_time (x ∷ xs) zero v zero t e = inl (refl, e)
set_time (x ∷ xs) zero v (suc d) t e = inr e
set_time (x ∷ xs) (suc k) v zero t e = inr e
set_time (x ∷ xs) (suc k) v (suc d) t e = elim (set_time xs k v d t e) [
  | inl p ↦ inl (ap suc p.0, p.1)
  | inr q ↦ inr q
]

-- a new time is represented once its entry is added
pub stands_with : (now later : ℕ) (times : List (Option ℕ)) (old new : List Entry) (driver : ℕ) (v : Option ℕ) → ((e : Entry) → Contains old e → Contains new e)
    → ((t : ℕ) → v ≡ Some t → t ≢ now → t ≢ later → Contains new (entry t driver)) → StandsBut now later times old
    → StandsBut now later (set times driver v) new
stands_with now later times old new driver v kept added s d t e other beyond =
    elim (set_time times driver v d t e) [
      | inl same ↦ subst (λ (k : ℕ). Contains new (entry t k)) (sym same.0) (added t same.1 other beyond)
      | inr before ↦ kept (entry t d) (s d t before other beyond)
    ]

-- a step of adding all entries again
pub stands_upto : (now later : ℕ) (times : List (Option ℕ)) (i : ℕ) (old new : List Entry) → ((d t : ℕ) → d < i → time_of times d ≡ Some t → t ≢ now
    → t ≢ later → Contains old (entry t d))
    → ((e : Entry) → Contains old e → Contains new e) → ((t : ℕ) → time_of times i ≡ Some t → t ≢ now → t ≢ later → Contains new (entry t i))
    → (d t : ℕ) → d < i + 1 → time_of times d ≡ Some t → t ≢ now → t ≢ later → Contains new (entry t d)
stands_upto now later times i old new before kept put d t l e other beyond = go (cases d i l)
  where
    cases : (d i : ℕ) → d < i + 1 → (d < i) ⊎ (d ≡ i)
    cases d i l = grind arith

    go : (d < i) ⊎ (d ≡ i) → Contains new (entry t d)
    go (inl m) = kept (entry t d) (before d t m e other beyond)
    go (inr q) = subst (λ (k : ℕ). Contains new (entry t k)) (sym q) (put t (subst (λ (k : ℕ). time_of times k ≡ Some t) q e) other beyond)

-- one more entry
pub kept_by_push : (old new : List Entry) (x : Entry) → IsPermutation (x ∷ old) new → (e : Entry) → Contains old e → Contains new e
kept_by_push old new x p e c = Contains-permutation (x ∷ old) new e p (behind x e old c)

pub added_by_push : (old new : List Entry) (t s d : ℕ) → IsPermutation (entry s d ∷ old) new → s ≡ t → Contains new (entry t d)
added_by_push old new t s d p same =
    subst (λ (k : ℕ). Contains new (entry k d)) same (Contains-permutation (entry s d ∷ old) new (entry s d) p (in_front (entry s d) old))
