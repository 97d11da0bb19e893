-- Transactions whose times strictly ascend.
use Rattle.std.proofs.Common.{ℕ, zero, suc, ◌+◌, ◌-◌, ◌<◌, ◌≤◌, ◌≡◌, ltb, Bool, true, false, if◌then◌else◌, List, [], ◌∷◌, ◌++◌, length, take, refl, ap}
use Rattle.std.proofs.Common.{arith, Result, Ok, Err, OnOk, OnErr}
use Rattle.std.proofs.lemmas.Bool.Decides.{nat_tests}
use Rattle.sim_logic.specs.declared.logic.Logic.{Logic}
use Rattle.sim_standard.specs.Drivers.{Transaction, transaction_at}
use Rattle.sim_standard.specs.declared.delay.Delay.{Delay}
use Rattle.sim_standard.specs.declared.delay.Delay.TheVariants.{Transport, Inertial}
use Rattle.sim_standard.specs.Editing.{before, edited, is_marked, kept_of, marked_of}
use Rattle.sim_wave.specs.Rising.{RisesFrom, scheduled}

-- transactions that ascend from a time ascend from an earlier one too
pub RisesFrom-earlier : (low high : ℕ) (xs : List Transaction) → low ≤ high → RisesFrom high xs → RisesFrom low xs
RisesFrom-earlier low high [] le r = tt
RisesFrom-earlier low high (x ∷ xs) le r = (omega arith, r.1)

-- none is before that time
pub RisesFrom-at : (low : ℕ) (xs : List Transaction) (k : ℕ) → RisesFrom low xs → k < length xs → low ≤ (transaction_at xs k).0
RisesFrom-at low [] k r h = absurd (omega arith)
RisesFrom-at low (x ∷ xs) zero r h = r.0
RisesFrom-at low (x ∷ xs) (suc k) r h = let ih = RisesFrom-at (suc x.0) xs k r.1 (omega arith) in omega (arith, r.0)

-- an earlier place has no later time
pub RisesFrom-order : (low : ℕ) (xs : List Transaction) (i j : ℕ) → RisesFrom low xs → i ≤ j → j < length xs
    → (transaction_at xs i).0 ≤ (transaction_at xs j).0
RisesFrom-order low [] i j r le h = absurd (omega arith)
RisesFrom-order low (x ∷ xs) zero zero r le h = omega arith
RisesFrom-order low (x ∷ xs) zero (suc j) r le h = let ih = RisesFrom-at (suc x.0) xs j r.1 (omega arith) in omega arith
RisesFrom-order low (x ∷ xs) (suc i) zero r le h = absurd (omega arith)
RisesFrom-order low (x ∷ xs) (suc i) (suc j) r le h = RisesFrom-order (suc x.0) xs i j r.1 (omega arith) (omega arith)

-- transactions appended to others
pub RisesFrom-append : (low bound : ℕ) (xs ys : List Transaction) → low ≤ bound → RisesFrom low xs
    → ((k : ℕ) → k < length xs → (transaction_at xs k).0 < bound) → RisesFrom bound ys → RisesFrom low (xs ++ ys)
RisesFrom-append low bound [] ys le r h s = RisesFrom-earlier low bound ys le s
RisesFrom-append low bound (x ∷ xs) ys le r h s =
    let here : x.0 < bound = h 0 (omega arith) in
    (r.0, RisesFrom-append (suc x.0) bound xs ys (omega arith) r.1 (λ k l. h (suc k) (omega arith)) s)

-- the new transactions ascend
pub RisesFrom-scheduled : (now low : ℕ) (es : List Transaction) → RisesFrom low es → RisesFrom (now + low) (scheduled now es)
RisesFrom-scheduled now low [] r = tt
RisesFrom-scheduled now low (e ∷ es) r =
    (omega (arith, r.0), RisesFrom-earlier (suc (now + e.0)) (now + suc e.0) (scheduled now es) (omega arith) (RisesFrom-scheduled now (suc e.0) es r.1))

-- the transactions before a time ascend, and are before it
pub before-rises : (low time : ℕ) (xs : List Transaction) → RisesFrom low xs → RisesFrom low (before time xs)
before-rises low time [] r = tt
before-rises low time (x ∷ xs) r = go (before-rises (suc x.0) time xs r.1) (ltb x.0 time)
  where
    go : RisesFrom (suc x.0) (before time xs) → (b : Bool) → RisesFrom low (if b then x ∷ before time xs else before time xs)
    go ih true = (r.0, ih)
    go ih false = RisesFrom-earlier low (suc x.0) (before time xs) (omega (arith, r.0)) ih

pub before-below : (time : ℕ) (xs : List Transaction) (k : ℕ) → k < length (before time xs) → (transaction_at (before time xs) k).0 < time
before-below time [] k h = absurd (omega arith)
before-below time (x ∷ xs) k h = go (before-below time xs) (ltb x.0 time) refl k h
  where
    go : ((i : ℕ) → i < length (before time xs) → (transaction_at (before time xs) i).0 < time) → (b : Bool) → ltb x.0 time ≡ b → (i : ℕ)
        → i < length (if b then x ∷ before time xs else before time xs) → (transaction_at (if b then x ∷ before time xs else before time xs) i).0 < time
    go ih true e zero l = grind (arith, nat_tests)
    go ih true e (suc i) l = ih i (omega arith)
    go ih false e i l = ih i l

-- if the first `n` transactions are before a time and the others are not, the first `n` are those before it
pub before-take : (time : ℕ) (xs : List Transaction) (n : ℕ) → n ≤ length xs
    → ((k : ℕ) → k < n → (transaction_at xs k).0 < time) → ((k : ℕ) → n ≤ k → k < length xs → time ≤ (transaction_at xs k).0)
    → before time xs ≡ take n xs
before-take time [] zero le below above = refl
before-take time [] (suc n) le below above = refl
before-take time (x ∷ xs) zero le below above =
    let here : time ≤ x.0 = above 0 (omega arith) (omega arith) in
    let test : ltb x.0 time ≡ false = grind (arith, nat_tests) in
    rw test (before-take time xs zero (omega arith) (λ k l. absurd (omega arith)) (λ k l h. above (suc k) (omega arith) (omega arith)))
before-take time (x ∷ xs) (suc n) le below above =
    let here : x.0 < time = below 0 (omega arith) in
    let test : ltb x.0 time ≡ true = grind (arith, nat_tests) in
    rw test (ap (λ (w : List Transaction). x ∷ w)
    (before-take time xs n (omega arith) (λ k l. below (suc k) (omega arith)) (λ k l h. above (suc k) (omega arith) (omega arith))))

-- the marked transactions ascend, and are before any time that all are before
pub marked_of-rises : (low limit : ℕ) (v : Logic) (xs : List Transaction) → RisesFrom low xs → RisesFrom low (marked_of limit v xs)
marked_of-rises low limit v [] r = tt
marked_of-rises low limit v (x ∷ xs) r = go (marked_of-rises (suc x.0) limit v xs r.1) (is_marked limit v x xs)
  where
    go : RisesFrom (suc x.0) (marked_of limit v xs) → (b : Bool) → RisesFrom low (if b then x ∷ marked_of limit v xs else marked_of limit v xs)
    go ih true = (r.0, ih)
    go ih false = RisesFrom-earlier low (suc x.0) (marked_of limit v xs) (omega (arith, r.0)) ih

pub marked_of-below : (limit time : ℕ) (v : Logic) (xs : List Transaction) → ((k : ℕ) → k < length xs → (transaction_at xs k).0 < time) → (k : ℕ)
    → k < length (marked_of limit v xs) → (transaction_at (marked_of limit v xs) k).0 < time
marked_of-below limit time v [] all k h = absurd (omega arith)
marked_of-below limit time v (x ∷ xs) all k h = go (marked_of-below limit time v xs (λ i l. all (suc i) (omega arith))) (is_marked limit v x xs) k h
  where
    go : ((i : ℕ) → i < length (marked_of limit v xs) → (transaction_at (marked_of limit v xs) i).0 < time) → (b : Bool) (i : ℕ)
        → i < length (if b then x ∷ marked_of limit v xs else marked_of limit v xs)
        → (transaction_at (if b then x ∷ marked_of limit v xs else marked_of limit v xs) i).0 < time
    go rest true zero l = all 0 (omega arith)
    go rest true (suc i) l = rest i (omega arith)
    go rest false i l = rest i l

kept_of-rises : (low : ℕ) (first : Transaction) (delay : Delay) (xs : List Transaction) → RisesFrom low xs → RisesFrom low (kept_of delay first xs)
kept_of-rises low first Transport xs r = r
kept_of-rises low first (Inertial reject) xs r = marked_of-rises low (first.0 - reject) first.1 xs r

kept_of-below : (first : Transaction) (delay : Delay) (xs : List Transaction) → ((k : ℕ) → k < length xs → (transaction_at xs k).0 < first.0) → (k : ℕ)
    → k < length (kept_of delay first xs) → (transaction_at (kept_of delay first xs) k).0 < first.0
kept_of-below first Transport xs all = all
kept_of-below first (Inertial reject) xs all = marked_of-below (first.0 - reject) first.0 first.1 xs all

-- the transactions that an assignment leaves ascend
pub edited-rises : (now : ℕ) (old : List Transaction) (delay : Delay) (es : List Transaction) → 0 < length es → RisesFrom now old → RisesFrom 0 es
    → RisesFrom now (edited old now delay es)
edited-rises now old delay [] some r s = absurd (omega arith)
edited-rises now old delay (e ∷ es) some r s =
    let first : Transaction = (now + e.0, e.1) in
    let front = kept_of-rises now first delay (before (now + e.0) old) (before-rises now (now + e.0) old r) in
    let new : RisesFrom (now + e.0) (scheduled now (e ∷ es)) = RisesFrom-scheduled now e.0 (e ∷ es) (omega arith, s.1) in
    RisesFrom-append now (now + e.0) (kept_of delay first (before (now + e.0) old)) (scheduled now (e ∷ es)) (omega arith) front
    (kept_of-below first delay (before (now + e.0) old) (before-below (now + e.0) old)) new

-- the same, if an error leaves the old transactions
pub edit-rises : {T E : Type 0} (r : Result T E) (now : ℕ) (old new : List Transaction) (delay : Delay) (es : List Transaction)
    → 0 < length es → RisesFrom now old → RisesFrom 0 es → OnOk r (new ≡ edited old now delay es) → OnErr r (new ≡ old) → RisesFrom now new
edit-rises (Ok x) now old new delay es some r s ok err = rw ok (edited-rises now old delay es some r s)
edit-rises (Err x) now old new delay es some r s ok err = rw err r
