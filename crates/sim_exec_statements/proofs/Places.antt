-- The index of a number in an ascending list.
use Rattle.std.proofs.Common.{◌≡◌, ℕ, zero, suc, ◌<◌, ◌≤◌, List, [], ◌∷◌, Bool, true, false, if◌then◌else◌, length, get_or, refl, ap, sym, ◌∙◌}
use Rattle.std.proofs.Common.{subst, arith, eqb, ltb, ltb-true, ltb-false}
use Rattle.std.proofs.lemmas.Bool.{eqb-false}
use Rattle.std.proofs.lemmas.Bool.Decides.{nat_tests}
use Rattle.std.proofs.lemmas.List.Sorted.{searched}
use Rattle.std.specs.List.Sorted.{IsBinarySearchResult}
use Rattle.std.specs.Ordering.{nat_cmp}
use Rattle.std.proofs.Common.{Ok, Err}
use Rattle.sim_flat_design.specs.Processes.{rising, with_number}
use Rattle.sim_standard.specs.Processes.{place_in}

-- each number is larger than the one before it, and the first is at least `b`
abbrev pub Rises : ℕ → List ℕ → Type 0
Rises b [] = Unit {0}
Rises b (x ∷ xs) = (b ≤ x) × Rises (suc x) xs

-- adding a number keeps a list ascending
more_rises : (b n : ℕ) (xs : List ℕ) → b ≤ n → Rises b xs → Rises b (with_number n xs)
unfolding with_number
more_rises b n [] le h = (le, tt)
more_rises b n (m ∷ ms) le h = go (eqb n m) (ltb n m) refl refl (λ above. more_rises (suc m) n ms above h.1)
  where
    go : (e l : Bool) → eqb n m ≡ e → ltb n m ≡ l → (suc m ≤ n → Rises (suc m) (with_number n ms))
        → Rises b (if e then m ∷ ms else (if l then n ∷ m ∷ ms else m ∷ with_number n ms))
    go true l p q more = h
    go false true p q more = (le, (omega (arith, ltb-true n m q), h.1))
    go false false p q more =
        let apart = eqb-false n m p in
        let above = ltb-false n m q in
        (h.0, more (omega (arith, apart, above)))

pub rising_rises : (ns : List ℕ) → Rises 0 (rising ns)
unfolding rising
rising_rises [] = tt
rising_rises (n ∷ ns) = more_rises 0 n (rising ns) (omega arith) (rising_rises ns)

-- an ascending list is unchanged
pub rises_as_it_is : (b : ℕ) (xs : List ℕ) → Rises b xs → rising xs ≡ xs
unfolding rising with_number
rises_as_it_is b [] h = refl
rises_as_it_is b (x ∷ []) h = refl
rises_as_it_is b (x ∷ y ∷ ys) h =
    let rest = rises_as_it_is (suc x) (y ∷ ys) h.1 in
    let apart : eqb x y ≡ false = let k = h.1.0 in grind (arith, nat_tests) in
    let below : ltb x y ≡ true = let k = h.1.0 in grind (arith, nat_tests) in
    ap (with_number x) rest ∙ rw (apart, below) refl

-- a list that was made ascending is ascending
pub made_rising : (xs ns : List ℕ) → xs ≡ rising ns → rising xs ≡ xs
made_rising xs ns is = rises_as_it_is 0 xs (subst (Rises 0) (sym is) (rising_rises ns))

-- ---- in an ascending list

pub at_least : (b i : ℕ) (xs : List ℕ) → Rises b xs → i < length xs → b ≤ get_or xs i 0
at_least b i [] h l = absurd (omega (arith, l))
at_least b zero (x ∷ xs) h l = h.0
at_least b (suc i) (x ∷ xs) h l = let k = at_least (suc x) i xs h.1 (omega (arith, l)) in omega (arith, k, h.0)

pub no_less : (b : ℕ) (xs : List ℕ) → Rises b xs → (i j : ℕ) → i ≤ j → j < length xs → get_or xs i 0 ≤ get_or xs j 0
no_less b [] h i j le l = absurd (omega (arith, l))
no_less b (x ∷ xs) h zero zero le l = omega arith
no_less b (x ∷ xs) h zero (suc j) le l = let k = at_least (suc x) j xs h.1 (omega (arith, l)) in omega (arith, k)
no_less b (x ∷ xs) h (suc i) zero le l = absurd (omega (arith, le))
no_less b (x ∷ xs) h (suc i) (suc j) le l = no_less (suc x) xs h.1 i j (omega (arith, le)) (omega (arith, l))

-- a number at an index is found there
pub found_at : (b i n : ℕ) (xs : List ℕ) → Rises b xs → i < length xs → get_or xs i 0 ≡ n → place_in xs n ≡ i
unfolding place_in
found_at b i n [] h l is = absurd (omega (arith, l))
found_at b zero n (x ∷ xs) h l is = let same : eqb x n ≡ true = grind (arith, nat_tests) in rw same refl
found_at b (suc i) n (x ∷ xs) h l is =
    let k = at_least (suc x) i xs h.1 (omega (arith, l)) in
    let apart : eqb x n ≡ false = grind (arith, nat_tests) in
    let rest = found_at (suc x) i n xs h.1 (omega (arith, l)) is in
    rw (apart, rest) (omega arith)

-- a number that is not in the list is found at the end
pub found_nowhere : (n : ℕ) (xs : List ℕ) → ((k : ℕ) → k < length xs → get_or xs k 0 ≡ n → ⊥) → place_in xs n ≡ length xs
unfolding place_in
found_nowhere n [] h = refl
found_nowhere n (x ∷ xs) h =
    let none : (x ≡ n → ⊥) = h 0 (omega arith) in
    let apart : eqb x n ≡ false = grind (arith, nat_tests) in
    let rest = found_nowhere n xs (λ k l. h (suc k) (omega (arith, l))) in
    rw (apart, rest) (omega arith)

-- the result of a binary search
pub searched_ok : (xs : List ℕ) (n i : ℕ) → rising xs ≡ xs → IsBinarySearchResult (λ y. nat_cmp y n) xs (Ok i) → i ≡ place_in xs n
searched_ok xs n i up h =
    let rises = subst (Rises 0) up (rising_rises xs) in
    let found = searched xs n (Ok i) h (no_less 0 xs rises) in
    sym (found_at 0 i n xs rises found.0 found.1)

pub searched_err : (xs : List ℕ) (n i : ℕ) → rising xs ≡ xs → IsBinarySearchResult (λ y. nat_cmp y n) xs (Err i) → length xs ≡ place_in xs n
searched_err xs n i up h =
    let rises = subst (Rises 0) up (rising_rises xs) in
    let found = searched xs n (Err i) h (no_less 0 xs rises) in
    sym (found_nowhere n xs (λ k l e. go k l e (ltb k i) refl))
  where
    go : (k : ℕ) → k < length xs → get_or xs k 0 ≡ n → (b : Bool) → ltb k i ≡ b → ⊥
    go k l e true p = let found = searched xs n (Err i) h (no_less 0 xs (subst (Rises 0) up (rising_rises xs))) in
        absurd (omega (arith, found.1 k (ltb-true k i p), e))
    go k l e false p = let found = searched xs n (Err i) h (no_less 0 xs (subst (Rises 0) up (rising_rises xs))) in
        absurd (omega (arith, found.2 k (ltb-false k i p) l, e))
