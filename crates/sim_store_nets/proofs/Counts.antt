-- How often each value is among others.
use Rattle.std.proofs.Common.{ℕ, zero, suc, ◌+◌, ◌-◌, ◌<◌, ◌≤◌, ◌≡◌, ◌≢◌, ◌==◌, eqb, Bool, true, false, List, [], ◌∷◌, length, get_or, set, take}
use Rattle.std.proofs.Common.{add-one, refl, ap, sym, ◌∙◌, arith}
use Rattle.std.specs.Prelude.{if◌then◌else◌}
use Rattle.std.proofs.lemmas.Bool.Decides.{nat_tests}
use Rattle.std.proofs.lemmas.List.{get_or-set_same, get_or-set_other, length-set}
use Rattle.sim_logic.specs.declared.logic.Logic.{Logic}
use Rattle.sim_logic.specs.declared.logic.Logic.TheVariants.{U, X, Zero, One, Z, W, L, H, Dash}
use Rattle.sim_logic.specs.Tables.{column_of}
use Rattle.sim_store_nets.specs.Tallies.{IsTally, count_at, times}

-- ---- columns

pub column-below : (v : Logic) → column_of v < 9
column-below U = omega arith
column-below X = omega arith
column-below Zero = omega arith
column-below One = omega arith
column-below Z = omega arith
column-below W = omega arith
column-below L = omega arith
column-below H = omega arith
column-below Dash = omega arith

-- one if these values are the same, otherwise nothing
abbrev pub one : Logic → Logic → ℕ
one x v = if column_of x == column_of v then 1 else 0

-- ---- how often

swapped : (a b : Bool) (t : ℕ) → (if b then suc t else t) + (if a then 1 else 0) ≡ (if a then suc t else t) + (if b then 1 else 0)
swapped true true t = omega arith
swapped true false t = omega arith
swapped false true t = omega arith
swapped false false t = omega arith

one_before : (a : Bool) (t u m n : ℕ) → t + m ≡ u + n → (if a then suc t else t) + m ≡ (if a then suc u else u) + n
one_before true t u m n e = omega (arith, e)
one_before false t u m n e = e

pub times-set : (v : Logic) (xs : List Logic) (i : ℕ) (y : Logic) → i < length xs → times v (set xs i y) + one (get_or xs i U) v ≡ times v xs + one y v
times-set v [] i y lt = absurd (omega (arith, lt))
times-set v (x ∷ xs) zero y lt = swapped (column_of x == column_of v) (column_of y == column_of v) (times v xs)
times-set v (x ∷ xs) (suc i) y lt =
    one_before (column_of x == column_of v) (times v (set xs i y)) (times v xs) (one (get_or xs i U) v) (one y v) (times-set v xs i y (omega (arith, lt)))

at_most : (a : Bool) (t n : ℕ) → t ≤ n → (if a then suc t else t) ≤ suc n
at_most true t n le = omega (arith, le)
at_most false t n le = omega (arith, le)

pub times-most : (v : Logic) (xs : List Logic) → times v xs ≤ length xs
times-most v [] = omega arith
times-most v (x ∷ xs) = at_most (column_of x == column_of v) (times v xs) (length xs) (times-most v xs)

one-same : (v : Logic) → one v v ≡ suc 0
one-same v = let same : eqb (column_of v) (column_of v) ≡ true = grind (arith, nat_tests) in rw same refl

pub times-taken : (v : Logic) (xs : List Logic) (i : ℕ) → times v (take i xs) ≤ i
times-taken v xs zero = omega arith
times-taken v [] (suc i) = omega arith
times-taken v (x ∷ xs) (suc i) = at_most (column_of x == column_of v) (times v (take i xs)) i (times-taken v xs i)

at_least : (a : Bool) (t : ℕ) → 0 < t → 0 < (if a then suc t else t)
at_least true t lt = omega arith
at_least false t lt = lt

here_once : (n t : ℕ) → 0 < (if n == n then suc t else t)
here_once n t = let same : eqb n n ≡ true = grind (arith, nat_tests) in rw same (omega arith)

pub times-here : (xs : List Logic) (i : ℕ) → i < length xs → 0 < times (get_or xs i U) xs
times-here [] i lt = absurd (omega (arith, lt))
times-here (x ∷ xs) zero lt = here_once (column_of x) (times x xs)
times-here (x ∷ xs) (suc i) lt =
    at_least (column_of x == column_of (get_or xs i U)) (times (get_or xs i U) xs) (times-here xs i (omega (arith, lt)))

once : (a : Bool) → (if a then suc 0 else 0) ≡ (if a then 1 else 0)
once true = refl
once false = refl

one_further : (a : Bool) (t u m : ℕ) → t ≡ u + m → (if a then suc t else t) ≡ (if a then suc u else u) + m
one_further true t u m e = omega (arith, e)
one_further false t u m e = e

times-step : (v : Logic) (xs : List Logic) (i : ℕ) → i < length xs → times v (take (suc i) xs) ≡ times v (take i xs) + one (get_or xs i U) v
times-step v [] i lt = absurd (omega (arith, lt))
times-step v (x ∷ xs) zero lt = let e = once (column_of x == column_of v) in omega (arith, e)
times-step v (x ∷ xs) (suc i) lt =
    one_further (column_of x == column_of v) (times v (take (suc i) xs)) (times v (take i xs)) (one (get_or xs i U) v) (times-step v xs i (omega (arith, lt)))

pub times-more : (v : Logic) (xs : List Logic) (i : ℕ) → i < length xs → times v (take (i + 1) xs) ≡ times v (take i xs) + one (get_or xs i U) v
times-more v xs i lt = rw add-one (times-step v xs i lt)

-- ---- counts

-- one more of a value
pub count-raised : (counts : List ℕ) (y v : Logic) → length counts ≡ 9
    → count_at (set counts (column_of y) (count_at counts y + 1)) v ≡ count_at counts v + one y v
count-raised counts y v sized = go (eqb (column_of y) (column_of v)) refl
  where
    go : (b : Bool) → eqb (column_of y) (column_of v) ≡ b
        → count_at (set counts (column_of y) (count_at counts y + 1)) v ≡ count_at counts v + (if b then 1 else 0)
    go true e =
        let at : column_of y ≡ column_of v = grind (arith, nat_tests) in
        rw at (get_or-set_same counts (column_of v) (get_or counts (column_of v) 0 + 1) 0 (omega (arith, column-below v, sized)))
    go false e =
        let apart : column_of v ≢ column_of y = grind (arith, nat_tests) in
        let same = get_or-set_other counts (column_of y) (column_of v) (count_at counts y + 1) 0 apart in
        omega (arith, same)

-- one less of a value that there is
pub count-lowered : (counts : List ℕ) (x v : Logic) → length counts ≡ 9 → 0 < count_at counts x
    → count_at (set counts (column_of x) (count_at counts x - 1)) v + one x v ≡ count_at counts v
count-lowered counts x v sized some = go (eqb (column_of x) (column_of v)) refl
  where
    go : (b : Bool) → eqb (column_of x) (column_of v) ≡ b
        → count_at (set counts (column_of x) (count_at counts x - 1)) v + (if b then 1 else 0) ≡ count_at counts v
    go true e =
        let at : column_of x ≡ column_of v = grind (arith, nat_tests) in
        let there : 0 < get_or counts (column_of v) 0 = rw (sym at) some in
        let same = get_or-set_same counts (column_of v) (get_or counts (column_of v) 0 - 1) 0 (omega (arith, column-below v, sized)) in
        rw at (omega (arith, same, there))
    go false e =
        let apart : column_of v ≢ column_of x = grind (arith, nat_tests) in
        let same = get_or-set_other counts (column_of x) (column_of v) (count_at counts x - 1) 0 apart in
        omega (arith, same)

-- ---- a value that changes

-- there is a source with the value before
pub some-before : (values : List Logic) (counts : List ℕ) (p : ℕ) (x : Logic) → IsTally values counts → p < length values → x ≡ get_or values p U
    → 0 < count_at counts x
some-before values counts p x i lt e = rw (e, i.counted (get_or values p U)) (times-here values p lt)

pub counts-sized : (values : List Logic) (counts : List ℕ) (p : ℕ) → IsTally values counts → p < length values → length counts ≡ 9
counts-sized values counts p i lt = i.sized (omega (arith, lt))

-- what is counted after one less of the value before
counts-between : (values : List Logic) (counts : List ℕ) (p : ℕ) (x y v : Logic) (counts' : List ℕ) → IsTally values counts → p < length values
    → x ≡ get_or values p U → counts' ≡ set counts (column_of x) (count_at counts x - 1)
    → count_at counts' v + one y v ≡ times v (set values p y)
counts-between values counts p x y v counts' i lt e ec =
    let low = count-lowered counts x v (counts-sized values counts p i lt) (some-before values counts p x i lt e) in
    let now : count_at counts' v ≡ count_at (set counts (column_of x) (count_at counts x - 1)) v = ap (λ w. count_at w v) ec in
    let t : times v (set values p y) + one x v ≡ times v values + one y v = rw e (times-set v values p y lt) in
    omega (arith, low, now, t, i.counted v)

-- there is room for one more of the value after
pub room-after : (values : List Logic) (counts : List ℕ) (p : ℕ) (x y : Logic) (counts' : List ℕ) → IsTally values counts → p < length values
    → x ≡ get_or values p U → counts' ≡ set counts (column_of x) (count_at counts x - 1)
    → count_at counts' y + 1 ≤ length values
room-after values counts p x y counts' i lt e ec =
    let itself = one-same y in
    omega (arith, itself, counts-between values counts p x y y counts' i lt e ec, times-most y (set values p y), length-set values p y)

pub tally-set : (values : List Logic) (counts : List ℕ) (p : ℕ) (x y : Logic) (counts' counts'' : List ℕ) → IsTally values counts → p < length values
    → x ≡ get_or values p U → counts' ≡ set counts (column_of x) (count_at counts x - 1)
    → counts'' ≡ set counts' (column_of y) (count_at counts' y + 1)
    → IsTally (set values p y) counts''
tally-set values counts p x y counts' counts'' i lt e ec ed =
    let sized = counts-sized values counts p i lt in
    let sized' : length counts' ≡ 9 = ap length ec ∙ (length-set counts (column_of x) (count_at counts x - 1) ∙ sized) in
    record {
      counted = λ v.
          ap (λ w. count_at w v) ed ∙ (count-raised counts' y v sized' ∙ counts-between values counts p x y v counts' i lt e ec);
      sized = λ some. ap length ed ∙ (length-set counts' (column_of y) (count_at counts' y + 1) ∙ sized');
    }
