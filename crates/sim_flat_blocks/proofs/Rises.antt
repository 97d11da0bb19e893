-- A strictly ascending list is determined by its members, so `rising` depends only on these.
use Rattle.std.proofs.Common.{◌≡◌, ℕ, zero, suc, ◌+◌, ◌<◌, ◌≤◌, ◌⊎◌, inl, inr, List, [], ◌∷◌, length, get_or, map, slice_index_or, refl, ap, sym, ◌∙◌}
use Rattle.std.proofs.Common.{subst, arith, eqb, ltb, eqb-true, ltb-true, ltb-false, Contains, IsPermutation}
use Rattle.sim_text_tokens.proofs.Tests.{by_cases}
use Rattle.std.proofs.lemmas.Bool.{eqb-false}
use Rattle.std.proofs.lemmas.List.Sorted.{Contains-permutation, IsPermutation-sym}
use Rattle.std.proofs.lemmas.List.Kept.{Contains-dedup_nat, Contains-from_dedup}
use Rattle.std.proofs.lemmas.Map.Keys.{IsStrictlyIncreasing-dedup}
use Rattle.std.specs.List.{dedup}
use Rattle.std.specs.List.Sorted.{IsStrictlyIncreasing, IsSorted}
use Rattle.std.specs.Ordering.{nat_cmp}
use Rattle.sim_flat_design.specs.Processes.{rising, with_number, nets_of}

-- whether a number is in a list
abbrev pub In : ℕ → List ℕ → Type 0
In m [] = ⊥
In m (x ∷ xs) = (x ≡ m) ⊎ In m xs

-- each number is larger than the one before it, and the first is at least this one
abbrev pub NumbersRise : ℕ → List ℕ → Type 0
NumbersRise b [] = Unit {0}
NumbersRise b (x ∷ xs) = (b ≤ x) × NumbersRise (suc x) xs

abbrev pub Within : List ℕ → List ℕ → Type 0
Within xs ys = (m : ℕ) → In m xs → In m ys

lower : (b c : ℕ) (xs : List ℕ) → c ≤ b → NumbersRise b xs → NumbersRise c xs
lower b c [] le h = tt
lower b c (x ∷ xs) le h = (omega arith, h.1)

-- a number below the first is not in the list
not_below : (b m : ℕ) (xs : List ℕ) → NumbersRise b xs → m < b → In m xs → ⊥
not_below b m [] h lt i = i
not_below b m (x ∷ xs) h lt (inl e) = omega arith
not_below b m (x ∷ xs) h lt (inr i) = not_below (suc x) m xs h.1 (omega arith) i

at_first : (b x y : ℕ) (ys : List ℕ) → NumbersRise b (y ∷ ys) → In x (y ∷ ys) → y ≤ x
at_first b x y ys h (inl e) = omega arith
at_first b x y ys h (inr i) = by_cases (ltb x (suc y)) (λ t. absurd (not_below (suc y) x ys h.1 (ltb-true _ _ t) i)) (λ t. let k = ltb-false x
    (suc y) t in omega arith)

tail_within : (b x : ℕ) (xs ys : List ℕ) → NumbersRise (suc x) xs → Within (x ∷ xs) (x ∷ ys) → Within xs ys
tail_within b x xs ys h w m i = ⊎_or (w m (inr i))
  where
    ⊎_or : (x ≡ m) ⊎ In m ys → In m ys
    ⊎_or (inl e) = absurd (not_below (suc x) m xs h (omega arith) i)
    ⊎_or (inr j) = j

same_first : (b x y : ℕ) (xs ys : List ℕ) → NumbersRise b (x ∷ xs) → NumbersRise b (y ∷ ys) → Within (x ∷ xs) (y ∷ ys) → Within (y ∷ ys) (x ∷ xs) → x ≡ y
same_first b x y xs ys h k u w =
    let low : y ≤ x = at_first b x y ys k (u x (inl refl)) in
    let high : x ≤ y = at_first b y x xs h (w y (inl refl)) in
    omega arith

-- two ascending lists with the same members are equal
pub one_list : (b : ℕ) (xs ys : List ℕ) → NumbersRise b xs → NumbersRise b ys → Within xs ys → Within ys xs → xs ≡ ys
one_list b [] [] h k u w = refl
one_list b [] (y ∷ ys) h k u w = absurd (w y (inl refl))
one_list b (x ∷ xs) [] h k u w = absurd (u x (inl refl))
one_list b (x ∷ xs) (y ∷ ys) h k u w =
    let e : x ≡ y = same_first b x y xs ys h k u w in
    let f : y ≡ x = sym e in
    let k2 : NumbersRise (suc x) ys = subst (λ (z : ℕ). NumbersRise (suc z) ys) f k.1 in
    let u2 : Within (x ∷ xs) (x ∷ ys) = subst (λ (z : ℕ). Within (x ∷ xs) (z ∷ ys)) f u in
    let w2 : Within (x ∷ ys) (x ∷ xs) = subst (λ (z : ℕ). Within (z ∷ ys) (x ∷ xs)) f w in
    let rest : xs ≡ ys = one_list (suc x) xs ys h.1 k2 (tail_within b x xs ys h.1 u2) (tail_within b x ys xs k2 w2) in
    cc

-- ---- the result of `rising`
differs : (n x : ℕ) → x ≤ n → (n ≡ x → ⊥) → suc x ≤ n
differs n x le apart = by_cases (ltb x n) (λ s. ltb-true x n s) (λ s. let k = ltb-false x n s in absurd (apart (omega arith)))

numbered : (b n : ℕ) (xs : List ℕ) → b ≤ n → NumbersRise b xs → NumbersRise b (with_number n xs)
unfolding with_number
numbered b n [] le h = (le, tt)
numbered b n (x ∷ xs) le h =
    by_cases (eqb n x) (λ t. rw t h) (λ t.
    by_cases (ltb n x)
    (λ s. let below : n < x = ltb-true n x s in rw (t, s) (le, (omega arith, h.1)))
    (λ s. let above : x ≤ n = ltb-false n x s in let apart = eqb-false n x t in rw (t, s) (h.0, numbered (suc x) n xs (differs n x above apart) h.1)))

rises : (xs : List ℕ) → NumbersRise 0 (rising xs)
unfolding rising
rises [] = tt
rises (x ∷ xs) = numbered 0 x (rising xs) (omega arith) (rises xs)

in_more : (n m : ℕ) (xs : List ℕ) → In m (n ∷ xs) → In m (with_number n xs)
unfolding with_number
in_more n m [] h = h
in_more n m (x ∷ xs) h =
    by_cases (eqb n x) (λ t. rw t (same h (eqb-true n x t))) (λ t.
    by_cases (ltb n x) (λ s. rw (t, s) h) (λ s. rw (t, s) (later (in_more n m xs) h)))
  where
    same : In m (n ∷ x ∷ xs) → n ≡ x → In m (x ∷ xs)
    same (inl e) d = inl (sym d ∙ e)
    same (inr i) d = i

    later : (In m (n ∷ xs) → In m (with_number n xs)) → In m (n ∷ x ∷ xs) → In m (x ∷ with_number n xs)
    later up (inl e) = inr (up (inl e))
    later up (inr (inl e)) = inl e
    later up (inr (inr i)) = inr (up (inr i))

from_more : (n m : ℕ) (xs : List ℕ) → In m (with_number n xs) → In m (n ∷ xs)
unfolding with_number
from_more n m [] h = h
from_more n m (x ∷ xs) h =
    by_cases (eqb n x) (λ t. inr (rw t at h)) (λ t.
    by_cases (ltb n x) (λ s. rw (t, s) at h) (λ s. later (from_more n m xs) (rw (t, s) at h)))
  where
    joined : In m (n ∷ xs) → In m (n ∷ x ∷ xs)
    joined (inl e) = inl e
    joined (inr j) = inr (inr j)

    later : (In m (with_number n xs) → In m (n ∷ xs)) → In m (x ∷ with_number n xs) → In m (n ∷ x ∷ xs)
    later down (inl e) = inr (inl e)
    later down (inr i) = joined (down i)

into : (xs : List ℕ) → Within xs (rising xs)
unfolding rising
into [] m h = h
into (x ∷ xs) m h = in_more x m (rising xs) (over (into xs m) h)
  where
    over : (In m xs → In m (rising xs)) → In m (x ∷ xs) → In m (x ∷ rising xs)
    over up (inl e) = inl e
    over up (inr i) = inr (up i)

out_of : (xs : List ℕ) → Within (rising xs) xs
unfolding rising
out_of [] m h = h
out_of (x ∷ xs) m h = over (out_of xs m) (from_more x m (rising xs) h)
  where
    over : (In m (rising xs) → In m xs) → In m (x ∷ rising xs) → In m (x ∷ xs)
    over down (inl e) = inl e
    over down (inr i) = inr (down i)

pub same_rising : (xs ys : List ℕ) → Within xs ys → Within ys xs → rising xs ≡ rising ys
same_rising xs ys u w =
    one_list 0 (rising xs) (rising ys) (rises xs) (rises ys)
    (λ m i. into ys m (u m (out_of xs m i))) (λ m i. into xs m (w m (out_of ys m i)))

pub rising_twice : (xs : List ℕ) → rising (rising xs) ≡ rising xs
rising_twice xs = same_rising (rising xs) xs (out_of xs) (into xs)

-- ---- the nets of positions
mapped : (f : ℕ → ℕ) (xs ys : List ℕ) → Within xs ys → Within (map f xs) (map f ys)
mapped f [] ys w m i = absurd i
mapped f (x ∷ xs) ys w m (inl e) = found f x ys m e (w x (inl refl))
  where
    found : (f : ℕ → ℕ) (x : ℕ) (ys : List ℕ) (m : ℕ) → f x ≡ m → In x ys → In m (map f ys)
    found f x [] m e i = absurd i
    found f x (y ∷ ys) m e (inl d) = inl (ap f d ∙ e)
    found f x (y ∷ ys) m e (inr i) = inr (found f x ys m e i)
mapped f (x ∷ xs) ys w m (inr i) = mapped f xs ys (λ k j. w k (inr j)) m i

pub nets_of_rising : (object_nets xs : List ℕ) → rising (nets_of object_nets (rising xs)) ≡ rising (nets_of object_nets xs)
nets_of_rising object_nets xs =
    let f = λ (n : ℕ). slice_index_or object_nets n 0 in
    same_rising (map f (rising xs)) (map f xs) (mapped f (rising xs) xs (out_of xs)) (mapped f xs (rising xs) (into xs))

-- ---- the result of a sort and a `dedup`
in_of : (xs : List ℕ) (m k : ℕ) → k < length xs → slice_index_or xs k m ≡ m → In m xs
in_of [] m k lt e = absurd (omega arith)
in_of (x ∷ xs) m zero lt e = inl e
in_of (x ∷ xs) m (suc k) lt e = inr (in_of xs m k (omega arith) e)

of_in : (xs : List ℕ) (m : ℕ) → In m xs → Contains xs m
of_in [] m i = absurd i
of_in (x ∷ xs) m (inl e) = (0, omega arith, e)
of_in (x ∷ xs) m (inr i) = let c = of_in xs m i in (suc c.0, omega arith, c.2)

from_increasing : (b : ℕ) (xs : List ℕ) → ((k : ℕ) → 0 < length xs → b ≤ get_or xs 0 0) → IsStrictlyIncreasing xs → NumbersRise b xs
from_increasing b [] le h = tt
from_increasing b (x ∷ xs) le h = (le 0 (omega arith), from_increasing (suc x) xs (λ k lt. h 0 (omega arith)) (λ k lt. shifted k (h (suc k) (omega arith))))
  where
    shifted : (k : ℕ) → get_or (x ∷ xs) (suc k) 0 < get_or (x ∷ xs) (suc k + 1) 0 → get_or xs k 0 < get_or xs (k + 1) 0
    shifted k lt = let e : suc k + 1 ≡ suc (k + 1) = omega arith in rw e at lt

pub sorted_rises : (xs ys zs : List ℕ) → IsPermutation xs ys → IsSorted nat_cmp ys → zs ≡ dedup eqb ys → zs ≡ rising xs
sorted_rises xs ys zs p s e =
    let up = from_increasing 0 (dedup eqb ys) (λ k lt. omega arith) (IsStrictlyIncreasing-dedup ys s) in
    let same : dedup eqb ys ≡ rising xs = one_list 0 (dedup eqb ys) (rising xs) up (rises xs) down upward in
    e ∙ same
  where
    down : Within (dedup eqb ys) (rising xs)
    down m i =
        let c = Contains-from_dedup eqb ys m (of_in (dedup eqb ys) m i) in
        let d = Contains-permutation ys xs m (IsPermutation-sym xs ys p) c in
        into xs m (in_of xs m d.0 d.1 d.2)

    upward : Within (rising xs) (dedup eqb ys)
    upward m i =
        let c = Contains-permutation xs ys m p (of_in xs m (out_of xs m i)) in
        let d = Contains-dedup_nat ys m c in
        in_of (dedup eqb ys) m d.0 d.1 d.2

-- the requirement of `Process`
pub sensitivity_rises : (s xs : List ℕ) → s ≡ rising xs → rising s ≡ s
sensitivity_rises s xs e = ap rising e ∙ (rising_twice xs ∙ sym e)

pub reads_rise : (r object_nets reads xs : List ℕ) → r ≡ rising (nets_of object_nets reads) → reads ≡ rising xs → r ≡ rising (nets_of object_nets xs)
reads_rise r object_nets reads xs e d = e ∙ (ap (λ (ys : List ℕ). rising (nets_of object_nets ys)) d ∙ nets_of_rising object_nets xs)
