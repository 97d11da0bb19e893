-- The due processes in a range of numbers, as a part of the list of all.
use Rattle.std.proofs.Common.{ℕ, zero, suc, ◌+◌, ◌-◌, ◌<◌, ◌≤◌, ◌≡◌, ◌++◌, ◌||◌, eqb, Bool, true, false, if◌then◌else◌, List, ◌∷◌, length, get_or, take, drop}
use Rattle.std.proofs.Common.{Ok, Err, refl, ap, sym, ◌∙◌, subst, arith, append_assoc, length-append}
use Rattle.std.proofs.Math.Decide.{dec_lt}
use Rattle.std.proofs.Math.Seq.{drop-append_seam, take-append_seam}
use Rattle.std.proofs.lemmas.List.{get_or-append-add, get_or_append_left}
use Rattle.std.proofs.lemmas.List.Elements.{All-cons, All-nil}
use Rattle.std.proofs.lemmas.List.Sorted.{searched}
use Rattle.std.proofs.lemmas.Slice.{between_is}
use Rattle.std.specs.List.{All, between, filter, range_with_len}
use Rattle.std.specs.List.Sorted.{IsBinarySearchResult}
use Rattle.std.specs.Ordering.{nat_cmp}
use Rattle.std.proofs.lemmas.Bool.Decides.{nat_tests}
use Rattle.sim_standard.specs.Orders.{is_among}
use Rattle.sim_standard.proofs.Numbers.{counted, counted-same, ranged}
use Rattle.sim_store_simulation.specs.Simulation.{listed, those_in}

-- ---- places among rising numbers

-- Each number is larger than those before it.
abbrev pub Rise : List ℕ → Type 0
Rise xs = (i j : ℕ) → i < j → j < length xs → get_or xs i 0 < get_or xs j 0

-- It is the place of the first number that is not below this one.
pub record IsPlace (xs : List ℕ) (from p : ℕ) : Type 0 where
  pub within : p ≤ length xs
  pub below : (k : ℕ) → k < p → get_or xs k 0 < from
  pub above : (k : ℕ) → p ≤ k → k < length xs → from ≤ get_or xs k 0

no-less : (xs : List ℕ) → Rise xs → (i j : ℕ) → i ≤ j → j < length xs → get_or xs i 0 ≤ get_or xs j 0
no-less xs up i j le lt = elim (dec_lt i j) [
  | yes l ↦ omega (arith, up i j l lt)
  | no ge ↦ (let same : i ≡ j = omega (arith, le, ge) in omega (arith, ap (λ (k : ℕ). get_or xs k 0) same))
]

pub place-found : (xs : List ℕ) (from p : ℕ) → Rise xs → IsBinarySearchResult (λ y. nat_cmp y from) xs (Ok p) → IsPlace xs from p
place-found xs from p up h =
    let found = searched xs from (Ok p) h (no-less xs up) in
    record {
      within = omega (arith, found.0);
      below = λ k lt. omega (arith, up k p lt found.0, found.1);
      above = λ k le lt. omega (arith, no-less xs up p k le lt, found.1);
    }

pub place-missing : (xs : List ℕ) (from p : ℕ) → Rise xs → IsBinarySearchResult (λ y. nat_cmp y from) xs (Err p) → IsPlace xs from p
place-missing xs from p up h =
    let found = searched xs from (Err p) h (no-less xs up) in
    record {
      within = found.0;
      below = found.1;
      above = λ k le lt. omega (arith, found.2 k le lt);
    }

-- ---- numbers that pass a test

-- each that is listed is among so many
pub among-within : (test : ℕ → Bool) (from count n : ℕ) → is_among (counted test from count) n ≡ true → (from ≤ n) × (n < from + count)
unfolding counted
among-within test from zero n e = absurd (cc e)
among-within test from (suc count) n e = go (test from) (eqb from n) refl (among-within test (suc from) count n) e
  where
    further : (suc from ≤ n) × (n < suc from + count) → (from ≤ n) × (n < from + suc count)
    further w = (omega (arith, w.0), omega (arith, w.1))

    go : (b c : Bool) → eqb from n ≡ c → (is_among (counted test (suc from) count) n ≡ true → (suc from ≤ n) × (n < suc from + count))
        → is_among (if b then from ∷ counted test (suc from) count else counted test (suc from) count) n ≡ true
        → (from ≤ n) × (n < from + suc count)
    go true true q later a = let at : from ≡ n = grind (arith, nat_tests) in (omega (arith, at), omega (arith, at))
    go true false q later a = further (later (ap (λ (c : Bool). c || is_among (counted test (suc from) count) n) (sym q) ∙ a))
    go false c q later a = further (later a)

-- what holds of each number among so many holds of all that are listed
pub counted-within : (test : ℕ → Bool) (from count : ℕ) (P : ℕ → Type 0) → ((n : ℕ) → from ≤ n → n < from + count → P n) → All P (counted test from count)
unfolding counted
counted-within test from zero P holds = All-nil P
counted-within test from (suc count) P holds =
    go (test from) (counted-within test (suc from) count P (λ n ge lt. holds n (omega (arith, ge)) (omega (arith, lt))))
  where
    go : (b : Bool) → All P (counted test (suc from) count) → All P (if b then from ∷ counted test (suc from) count else counted test (suc from) count)
    go true rest = All-cons P from (counted test (suc from) count) (holds from (omega arith) (omega arith)) rest
    go false rest = rest

counted-least : (test : ℕ → Bool) (from count : ℕ) → All (λ (n : ℕ). from ≤ n) (counted test from count)
counted-least test from count = counted-within test from count (λ (n : ℕ). from ≤ n) (λ n ge lt. ge)

counted-most : (test : ℕ → Bool) (from count : ℕ) → All (λ (n : ℕ). n < from + count) (counted test from count)
counted-most test from count = counted-within test from count (λ (n : ℕ). n < from + count) (λ n ge lt. lt)

counted-rises : (test : ℕ → Bool) (from count : ℕ) → Rise (counted test from count)
unfolding counted
counted-rises test from zero = λ i j less lt. absurd (omega (arith, lt))
counted-rises test from (suc count) = go (test from) (counted-least test (suc from) count) (counted-rises test (suc from) count)
  where
    next : (i j : ℕ) → All (λ (n : ℕ). suc from ≤ n) (counted test (suc from) count) → Rise (counted test (suc from) count) → i < j
        → j < length (from ∷ counted test (suc from) count)
        → get_or (from ∷ counted test (suc from) count) i 0 < get_or (from ∷ counted test (suc from) count) j 0
    next i zero least rest less lt = absurd (omega (arith, less))
    next zero (suc j) least rest less lt = omega (arith, least j 0 (omega (arith, lt)))
    next (suc i) (suc j) least rest less lt = rest i j (omega (arith, less)) (omega (arith, lt))

    go : (b : Bool) → All (λ (n : ℕ). suc from ≤ n) (counted test (suc from) count) → Rise (counted test (suc from) count)
        → Rise (if b then from ∷ counted test (suc from) count else counted test (suc from) count)
    go true least rest = λ i j less lt. next i j least rest less lt
    go false least rest = rest

counted-parts : (test : ℕ → Bool) (from a b : ℕ) → counted test from (a + b) ≡ counted test from a ++ counted test (from + a) b
unfolding counted
counted-parts test from zero b =
    let none : 0 + b ≡ b = omega arith in
    let same : from ≡ from + 0 = omega arith in
    ap (counted test from) none ∙ ap (λ (n : ℕ). counted test n b) same
counted-parts test from (suc a) b =
    let one : suc a + b ≡ suc (a + b) = omega arith in
    let next : suc from + a ≡ from + suc a = omega arith in
    ap (counted test from) one ∙ go (test from) (counted-parts test (suc from) a b ∙ ap (λ (n : ℕ). counted test (suc from) a ++ counted test n b) next)
  where
    go : (c : Bool) → counted test (suc from) (a + b) ≡ counted test (suc from) a ++ counted test (from + suc a) b
        → (if c then from ∷ counted test (suc from) (a + b) else counted test (suc from) (a + b))
        ≡ (if c then from ∷ counted test (suc from) a else counted test (suc from) a) ++ counted test (from + suc a) b
    go true e = ap (λ (ns : List ℕ). from ∷ ns) e
    go false e = e

-- a place is how many come before it
place-is : (xs ys : List ℕ) (from p : ℕ) → All (λ (n : ℕ). n < from) xs → All (λ (n : ℕ). from ≤ n) ys → IsPlace (xs ++ ys) from p → p ≡ length xs
place-is xs ys from p under over w =
    let long = length-append xs ys in
    elim (dec_lt p (length xs)) [
      | yes less ↦ (let at : get_or (xs ++ ys) p 0 ≡ get_or xs p 0 = get_or_append_left xs ys 0 p less in
          absurd (omega (arith, at, under p 0 less, w.above p (omega arith) (omega (arith, long, less)))))
      | no most ↦ elim (dec_lt (length xs) p) [
        | yes more ↦ (let some : 0 < length ys = omega (arith, more, w.within, long) in
            let here : length xs ≡ length xs + 0 = omega arith in
            let at : get_or (xs ++ ys) (length xs) 0 ≡ get_or ys 0 0 =
            ap (λ (k : ℕ). get_or (xs ++ ys) k 0) here ∙ get_or-append-add xs ys 0 0 in
            absurd (omega (arith, at, over 0 0 some, w.below (length xs) more)))
        | no least ↦ omega (arith, most, least)
      ]
    ]

-- ---- a part of the list

-- These are the numbers between two places.
pub record IsSlice (numbers : List ℕ) (start end : ℕ) (part : List ℕ) : Type 0 where
  pub order : start ≤ end
  pub within : end ≤ length numbers
  pub part_is : between start end numbers ≡ part

slice-counted : (test : ℕ → Bool) (from count rest start end : ℕ) → IsPlace (counted test 0 (from + (count + rest))) from start
    → IsPlace (counted test 0 (from + (count + rest))) (from + count) end
    → IsSlice (counted test 0 (from + (count + rest))) start end (counted test from count)
slice-counted test from count rest start end ws we =
    let none : (n : ℕ) → 0 + n ≡ n = λ n. omega arith in
    let xs = counted test 0 from in
    let ys = counted test from count in
    let zs = counted test (from + count) rest in
    let all = counted test 0 (from + (count + rest)) in
    let tail : counted test from (count + rest) ≡ ys ++ zs = counted-parts test from count rest in
    let two : all ≡ xs ++ (ys ++ zs) = counted-parts test 0 from (count + rest)
    ∙ (ap (λ (n : ℕ). xs ++ counted test n (count + rest)) (none from) ∙ ap (λ (w : List ℕ). xs ++ w) tail) in
    let three : all ≡ (xs ++ ys) ++ zs = two ∙ sym (append_assoc xs ys zs) in
    let under : All (λ (n : ℕ). n < from) xs = subst (λ (b : ℕ). All (λ (n : ℕ). n < b) xs) (none from) (counted-most test 0 from) in
    let over : All (λ (n : ℕ). from ≤ n) (ys ++ zs) = subst (All (λ (n : ℕ). from ≤ n)) tail (counted-least test from (count + rest)) in
    let front : counted test 0 (from + count) ≡ xs ++ ys =
    counted-parts test 0 from count ∙ ap (λ (n : ℕ). xs ++ counted test n count) (none from) in
    let under' : All (λ (n : ℕ). n < from + count) (xs ++ ys) =
    subst (All (λ (n : ℕ). n < from + count)) front (subst (λ (b : ℕ). All (λ (n : ℕ). n < b) (counted test 0 (from + count))) (none (from + count))
    (counted-most test 0 (from + count))) in
    let begin : start ≡ length xs = place-is xs (ys ++ zs) from start under over (subst (λ (w : List ℕ). IsPlace w from start) two ws) in
    let stop : end ≡ length (xs ++ ys) =
    place-is (xs ++ ys) zs (from + count) end under' (counted-least test (from + count) rest) (subst (λ (w : List ℕ). IsPlace w (from + count) end) three we) in
    record {
      order = omega (arith, begin, stop, length-append xs ys);
      within = we.within;
      part_is = ap (between start end) three ∙ (between_is ((xs ++ ys) ++ zs) start end
          ∙ (ap (λ (k : ℕ). drop start (take k ((xs ++ ys) ++ zs))) stop
          ∙ (ap (λ (w : List ℕ). drop start w) (take-append_seam (xs ++ ys) zs)
          ∙ (ap (λ (k : ℕ). drop k (xs ++ ys)) begin ∙ drop-append_seam xs ys))));
    }

module _ (due : List Bool) (numbers : List ℕ) (is : numbers ≡ listed due) where
  counted-is : numbers ≡ counted (those_in due) 0 (length due)
  counted-is = is ∙ ranged (those_in due) 0 (length due)

  -- the members of a set rise
  pub due-rise : Rise numbers
  due-rise = subst Rise (sym counted-is) (counted-rises (those_in due) 0 (length due))

  -- between the places of two numbers are those that are not below the one, and below the other
  pub due-between : (test : ℕ → Bool) (from count start end : ℕ) → from + count ≤ length due
      → ((p : ℕ) → p < length due → those_in due p ≡ test p) → IsPlace numbers from start → IsPlace numbers (from + count) end
      → IsSlice numbers start end (filter test (range_with_len from count))
  due-between test from count start end le same ws we =
      let rest = length due - (from + count) in
      let all : length due ≡ from + (count + rest) = omega (arith, le) in
      let e : numbers ≡ counted (those_in due) 0 (from + (count + rest)) = counted-is ∙ ap (counted (those_in due) 0) all in
      let part : counted (those_in due) from count ≡ filter test (range_with_len from count) =
      counted-same (those_in due) test from count (λ p ge lt. same p (omega (arith, lt, le))) ∙ sym (ranged test from count) in
      subst (λ (w : List ℕ). IsSlice numbers start end w) part
      (subst (λ (w : List ℕ). IsSlice w start end (counted (those_in due) from count)) (sym e)
      (slice-counted (those_in due) from count rest start end (subst (λ (w : List ℕ). IsPlace w from start) e ws)
      (subst (λ (w : List ℕ). IsPlace w (from + count) end) e we)))
