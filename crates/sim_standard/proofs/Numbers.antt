-- The numbers that pass a test, by recursion.
use Rattle.std.proofs.Common.{ℕ, zero, suc, ◌+◌, ◌<◌, ◌≤◌, ◌≡◌, ◌≢◌, eqb, Bool, true, false, if◌then◌else◌, cond, List, [], ◌∷◌, length, refl, ap, sym, ◌∙◌}
use Rattle.std.proofs.Common.{subst, arith}
use Rattle.std.specs.List.{AllByRecursion, filter, range_with_len}
use Rattle.std.proofs.lemmas.Bool.Decides.{nat_tests}
use Rattle.sim_standard.specs.Orders.{is_among, NoRepeats}

-- among so many from this one on, rising
unfoldable pub counted : (ℕ → Bool) → ℕ → ℕ → List ℕ
counted test n zero = []
counted test n (suc count) = if test n then n ∷ counted test (suc n) count else counted test (suc n) count

-- a filter of a range lists the same
pub ranged : (f : ℕ → Bool) (i n : ℕ) → filter f (range_with_len i n) ≡ counted f i n
unfolding counted
ranged f i zero = refl
ranged f i (suc n) =
    let next : suc i ≡ i + 1 = omega arith in
    go (f i) (subst (λ (m : ℕ). filter f (range_with_len m n) ≡ counted f (suc i) n) next (ranged f (suc i) n))
  where
    go : (b : Bool) → filter f (range_with_len (i + 1) n) ≡ counted f (suc i) n
        → cond b (i ∷ filter f (range_with_len (i + 1) n)) (filter f (range_with_len (i + 1) n))
        ≡ (if b then i ∷ counted f (suc i) n else counted f (suc i) n)
    go true e = ap (λ w. i ∷ w) e
    go false e = e

-- ---- which numbers they are

pub counted-out : (f : ℕ → Bool) (i n k : ℕ) → k < i → is_among (counted f i n) k ≡ false
unfolding counted
counted-out f i zero k lt = refl
counted-out f i (suc n) k lt = go (f i) (counted-out f (suc i) n k (omega arith))
  where
    go : (b : Bool) → is_among (counted f (suc i) n) k ≡ false → is_among (if b then i ∷ counted f (suc i) n else counted f (suc i) n) k ≡ false
    go true rest = let apart : eqb i k ≡ false = grind (arith, nat_tests) in rw apart rest
    go false rest = rest

pub counted-once : (f : ℕ → Bool) (i n : ℕ) → NoRepeats (counted f i n)
unfolding counted
counted-once f i zero = tt
counted-once f i (suc n) = go (f i) (counted-out f (suc i) n i (omega arith)) (counted-once f (suc i) n)
  where
    go : (b : Bool) → is_among (counted f (suc i) n) i ≡ false → NoRepeats (counted f (suc i) n)
        → NoRepeats (if b then i ∷ counted f (suc i) n else counted f (suc i) n)
    go true out rest = (out, rest)
    go false out rest = rest

pub counted-below : (f : ℕ → Bool) (i n m : ℕ) → i + n ≤ m → AllByRecursion (λ (p : ℕ). p < m) (counted f i n)
unfolding counted
counted-below f i zero m le = tt
counted-below f i (suc n) m le = go (f i) (counted-below f (suc i) n m (omega arith))
  where
    go : (b : Bool) → AllByRecursion (λ (p : ℕ). p < m) (counted f (suc i) n)
        → AllByRecursion (λ (p : ℕ). p < m) (if b then i ∷ counted f (suc i) n else counted f (suc i) n)
    go true rest = (omega arith, rest)
    go false rest = rest

pub counted-in : (f : ℕ → Bool) (i n k : ℕ) → i ≤ k → k < i + n → is_among (counted f i n) k ≡ f k
unfolding counted
counted-in f i zero k ge lt = absurd (omega (arith, ge, lt))
counted-in f i (suc n) k ge lt = go (f i) refl (eqb i k) refl (counted-in f (suc i) n k)
  where
    go : (b : Bool) → f i ≡ b → (c : Bool) → eqb i k ≡ c → (suc i ≤ k → k < suc i + n → is_among (counted f (suc i) n) k ≡ f k)
        → is_among (if b then i ∷ counted f (suc i) n else counted f (suc i) n) k ≡ f k
    go true fi true e rest = let at : i ≡ k = grind (arith, nat_tests) in rw e (sym (ap f (sym at) ∙ fi))
    go true fi false e rest = let apart : i ≢ k = grind (arith, nat_tests) in rw e (rest (omega arith) (omega arith))
    go false fi true e rest = let at : i ≡ k = grind (arith, nat_tests) in counted-out f (suc i) n k (omega arith) ∙ sym (ap f (sym at) ∙ fi)
    go false fi false e rest = let apart : i ≢ k = grind (arith, nat_tests) in rest (omega arith) (omega arith)

-- ---- two tests, and how many they are

-- tests that agree on these numbers
pub counted-same : (f g : ℕ → Bool) (i n : ℕ) → ((k : ℕ) → i ≤ k → k < i + n → f k ≡ g k) → counted f i n ≡ counted g i n
unfolding counted
counted-same f g i zero same = refl
counted-same f g i (suc n) same =
    let rest = counted-same f g (suc i) n (λ k ge lt. same k (omega (arith, ge)) (omega (arith, lt))) in
    rw (same i (omega arith) (omega arith), rest) refl

pub counted-none : (f : ℕ → Bool) (i n : ℕ) → ((p : ℕ) → f p ≡ false) → counted f i n ≡ []
unfolding counted
counted-none f i zero none = refl
counted-none f i (suc n) none = rw (none i) (counted-none f (suc i) n none)

-- no more than numbers tested
pub counted-few : (f : ℕ → Bool) (i n : ℕ) → length (counted f i n) ≤ n
unfolding counted
counted-few f i zero = omega arith
counted-few f i (suc n) = go (f i) (counted-few f (suc i) n)
  where
    go : (b : Bool) → length (counted f (suc i) n) ≤ n → length (if b then i ∷ counted f (suc i) n else counted f (suc i) n) ≤ suc n
    go true h = omega (arith, h)
    go false h = omega (arith, h)
