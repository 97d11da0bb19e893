-- An element of one of several lists, by its number among the elements of all.
use Rattle.std.proofs.Common.{ℕ, zero, suc, ◌+◌, ◌-◌, ◌<◌, ◌≤◌, ◌≡◌, ◌++◌, List, [], ◌∷◌, length, get_or, set, take, drop}
use Rattle.std.proofs.Common.{refl, ap, sym, ◌∙◌, arith, append_assoc, length-append}
use Rattle.std.proofs.lemmas.List.{get_or-append-add, get_or_append_left, set-append_left, set-append_right}
use Rattle.sim_containers.specs.RowArray.{joined, IsAt}
use Rattle.sim_containers.proofs.Flat.{cut, cut-set}

pub joined-append : {A : Type 0} (xss yss : List (List A)) → joined (xss ++ yss) ≡ joined xss ++ joined yss
joined-append [] yss = refl
joined-append (xs ∷ xss) yss = ap (λ w. xs ++ w) (joined-append xss yss) ∙ sym (append_assoc xs (joined xss) (joined yss))

-- the items before a list, and those of the list, are the items before the next one
pub before-more : {A : Type 0} (xss : List (List A)) (p : ℕ) → p < length xss
    → length (joined (take (suc p) xss)) ≡ length (joined (take p xss)) + length (get_or xss p [])
before-more [] p h = absurd (omega arith)
before-more (xs ∷ xss) zero h = omega (arith, length-append xs [])
before-more (xs ∷ xss) (suc p) h =
    omega (arith, before-more xss p (omega arith), length-append xs (joined (take (suc p) xss)), length-append xs (joined (take p xss)))

pub before-whole : {A : Type 0} (xss : List (List A)) (p : ℕ) → length (joined (take p xss)) ≤ length (joined xss)
before-whole xss zero = omega arith
before-whole [] (suc p) = omega arith
before-whole (xs ∷ xss) (suc p) = omega (arith, before-whole xss p, length-append xs (joined (take p xss)), length-append xs (joined xss))

-- ---- an element of one of them

pub at-get : {A : Type 0} {xss : List (List A)} {n p i : ℕ} → IsAt xss n p i → (d : A) → get_or (joined xss) n d ≡ get_or (get_or xss p []) i d
at-get {xss = xss} {n = n} {p = p} {i = i} at d =
    let front = joined (take p xss) in
    let row = get_or xss p [] in
    let back = joined (drop (suc p) xss) in
    ap (λ w. get_or w n d) (cut xss p at.among) ∙ (ap (λ m. get_or (front ++ (row ++ back)) m d) at.counted
    ∙ (get_or-append-add front (row ++ back) i d ∙ get_or_append_left row back d i at.inside))

pub at-set : {A : Type 0} {xss : List (List A)} {n p i : ℕ} → IsAt xss n p i → (x : A)
    → joined (set xss p (set (get_or xss p []) i x)) ≡ set (joined xss) n x
at-set {xss = xss} {n = n} {p = p} {i = i} at x =
    let front = joined (take p xss) in
    let row = get_or xss p [] in
    let back = joined (drop (suc p) xss) in
    let far : length front ≤ n = omega (arith, at.counted) in
    let i' : n - length front ≡ i = omega (arith, at.counted) in
    let here : set (joined xss) n x ≡ front ++ (set row i x ++ back) =
    ap (λ w. set w n x) (cut xss p at.among) ∙ (set-append_right front (row ++ back) (length front) n x refl far
    ∙ (ap (λ m. front ++ set (row ++ back) m x) i' ∙ ap (λ w. front ++ w) (set-append_left row back i x at.inside))) in
    cut-set xss p (set row i x) at.among ∙ sym here

-- where there is one list, each element is at its own number
pub placed-alone : {A : Type 0} (xss : List (List A)) (n : ℕ) → length xss ≡ 1 → n < length (joined xss) → IsAt xss n 0 n
placed-alone [] n e h = absurd (omega arith)
placed-alone (xs ∷ []) n e h = record {
  among = omega arith;
  inside = omega (arith, h, length-append xs []);
  counted = omega arith;
}
placed-alone (xs ∷ ys ∷ xss) n e h = absurd (omega arith)
