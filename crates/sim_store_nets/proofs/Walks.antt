-- A walk over the members of a set, in rising order.
use Rattle.std.proofs.Common.{ℕ, zero, suc, ◌+◌, ◌-◌, ◌<◌, ◌≤◌, ◌≡◌, ◌≢◌, eqb, Bool, true, false, List, None, length, get_or, refl, sym}
use Rattle.std.proofs.Common.{subst, arith, add-one}
use Rattle.std.proofs.Math.Decide.{dec_lt}
use Rattle.std.proofs.lemmas.Bool.Decides.{nat_tests}
use Rattle.std.proofs.lemmas.List.{get_or_past}
use Rattle.sim_containers.specs.Numbers.{is_in, members}
use Rattle.sim_containers.specs.Words.{IsNext, NoneFrom}
use Rattle.sim_containers.proofs.Ranges.{below, count, count_passed, each_passes, next_here, next_listed, over, under}

-- What holds at each number that is no member, and at each member that the walk has passed.
pub record Walked (set' : List Bool) (from : ℕ) (P : ℕ → Type 0) : Type 0 where
  pub at : (k : ℕ) → (is_in set' k ≡ true → k < from) → P k

pub not_both : (b : Bool) → b ≡ false → b ≡ true → ⊥
not_both true e f = absurd cc
not_both false e f = absurd cc

-- a member is below the bound
pub member_within : (set' : List Bool) (n : ℕ) → is_in set' n ≡ true → n < length set'
member_within set' n here = elim (dec_lt n (length set')) [
  | yes h ↦ h
  | no h ↦ absurd (not_both (is_in set' n) (get_or_past set' n false (omega arith)) here)
]

pub walk_start : {P : ℕ → Type 0} (set' : List Bool) → ((k : ℕ) → is_in set' k ≡ false → P k) → Walked set' 0 P
walk_start {P} set' f = record { at = λ k h. go k (is_in set' k) refl h }
  where
    go : (k : ℕ) (b : Bool) → is_in set' k ≡ b → (is_in set' k ≡ true → k < 0) → P k
    go k false e h = f k e
    go k true e h = let l = h e in absurd (omega arith)

pub walk_more : {P Q : ℕ → Type 0} {set' : List Bool} {from n : ℕ} → Walked set' from P → IsNext (is_in set') from n
    → ((k : ℕ) → k ≢ n → P k → Q k) → Q n → Walked set' (n + 1) Q
walk_more {P} {Q} {set'} {from} {n} w next keeps here = record { at = λ k h. go k h (eqb k n) refl }
  where
    passed : (k : ℕ) → (is_in set' k ≡ true → k < n + 1) → k ≢ n → is_in set' k ≡ true → k < from
    passed k h differ e = elim (dec_lt k from) [
      | yes l ↦ l
      | no l ↦ (let m = h e in absurd (not_both (is_in set' k) (next.first k (omega arith) (omega arith)) e))
    ]

    go : (k : ℕ) → (is_in set' k ≡ true → k < n + 1) → (b : Bool) → eqb k n ≡ b → Q k
    go k h true e = let same : k ≡ n = grind (arith, nat_tests) in subst Q (sym same) here
    go k h false e = let differ : k ≢ n = grind (arith, nat_tests) in keeps k differ (w.at k (passed k h differ))

pub walk_done : {P : ℕ → Type 0} {set' : List Bool} {from : ℕ} → Walked set' from P → NoneFrom (is_in set') from → (k : ℕ) → P k
walk_done {P} {set'} {from} w none k = w.at k (λ e. elim (dec_lt k from) [ yes l ↦ l | no l ↦ absurd (not_both (is_in set' k) (none k (omega arith)) e) ])

-- ---- along a list of the members

-- above the members at the places before this one
abbrev pub bound_at : List ℕ → ℕ → ℕ
bound_at list zero = 0
bound_at list (suc place) = get_or list place 0 + 1

-- the members rise
rising : (p : ℕ → Bool) (m k : ℕ) → suc k < count p m → get_or (below p m) k 0 < get_or (below p m) (suc k) 0
rising p m k lt = let high = over p (n + 1) m (suc k) (omega (arith, small)) few lt in omega (arith, high)
  where
    n : ℕ
    n = get_or (below p m) k 0

    small : n < m
    small = under p m m k (omega arith) (omega (arith, lt))

    passes : count p (n + 1) ≡ count p n + 1
    passes = count_passed p n (each_passes p m k (omega (arith, lt)))

    few : count p (n + 1) ≤ suc k
    few = elim (dec_lt k (count p n)) [
      | yes h ↦ (let low : n < n = under p n m k (omega (arith, small)) h in absurd (omega (arith, low)))
      | no h ↦ omega (arith, h, passes)
    ]

below_bound : (list : List ℕ) (place : ℕ) → 0 < place → get_or list (place - 1) 0 < bound_at list place
below_bound list zero some = absurd (omega arith)
below_bound list (suc place) some = let e : suc place - 1 ≡ place = omega arith in rw e (omega arith)

-- the member at a place is the next one
pub listed_step : (set' : List Bool) (list : List ℕ) (place : ℕ) → list ≡ members set' → place < length list
    → IsNext (is_in set') (bound_at list place) (get_or list place 0)
listed_step set' list place e lt = next_here set' (bound_at list place) place (get_or list place 0) list e lt (from place lt) (below_bound list place) refl
  where
    from : (k : ℕ) → k < length list → bound_at list k ≤ get_or list k 0
    from zero l = omega arith
    from (suc k) l =
        let rises : get_or (members set') k 0 < get_or (members set') (suc k) 0 =
        rising (is_in set') (length set') k (subst (λ (xs : List ℕ). suc k < length xs) e l) in
        let here : get_or list k 0 < get_or list (suc k) 0 = subst (λ (xs : List ℕ). get_or xs k 0 < get_or xs (suc k) 0) (sym e) rises in
        omega (arith, here)

-- and after the last place there is none
pub none_listed : (set' : List Bool) (list : List ℕ) (place : ℕ) → list ≡ members set' → length list ≤ place → place ≤ length list
    → NoneFrom (is_in set') (bound_at list place)
none_listed set' list place e most within =
    next_listed set' (bound_at list place) place list None e within (λ lt. absurd (omega (arith, lt, most))) (below_bound list place) tt most

-- a member is passed
pub walk_on : {P : ℕ → Type 0} {set' : List Bool} (list : List ℕ) (place : ℕ) → Walked set' (get_or list place 0 + 1) P
    → Walked set' (bound_at list (place + 1)) P
walk_on {P} {set'} list place w = subst (λ (k : ℕ). Walked set' (bound_at list k) P) (sym (add-one place)) w

-- after the last place it holds at each number
pub walk_listed : {P : ℕ → Type 0} {set' : List Bool} (list : List ℕ) (place : ℕ) → list ≡ members set' → length list ≤ place → place ≤ length list
    → Walked set' (bound_at list place) P → (k : ℕ) → P k
walk_listed {P} {set'} list place e most within w = walk_done w (none_listed set' list place e most within)

-- ---- of a list of a single member

-- it is the first one
pub only_step : (set' : List Bool) (list : List ℕ) → list ≡ members set' → length list ≡ 1 → IsNext (is_in set') 0 (get_or list 0 0)
only_step set' list e one = listed_step set' list 0 e (omega (arith, one))

-- and after it there is none
pub none_else : (set' : List Bool) (list : List ℕ) → list ≡ members set' → length list ≡ 1 → NoneFrom (is_in set') (get_or list 0 0 + 1)
none_else set' list e one = none_listed set' list 1 e (omega (arith, one)) (omega (arith, one))
