-- Truth values, and whether numbers are among others.
use Rattle.std.proofs.Common.{ℕ, suc, ◌+◌, ◌<◌, ◌≡◌, ◌≢◌, ◌==◌, ◌++◌, ◌||◌, ◌&&◌, eqb, Bool, true, false, List, [], ◌∷◌, length, get_or, set}
use Rattle.std.proofs.Common.{take, refl, ap, sym, ◌∙◌, arith, ◌⊎◌, inl, inr}
use Rattle.std.proofs.lemmas.Bool.Decides.{nat_tests}
use Rattle.std.proofs.lemmas.List.{get_or-set_same, get_or-set_other, take_more}
use Rattle.sim_standard.specs.Orders.{is_among}

-- ---- truth values

pub or_true : (a b : Bool) → (a || b) ≡ true → (a ≡ true) ⊎ (b ≡ true)
or_true true b e = inl refl
or_true false b e = inr e

pub or_left : (a b : Bool) → a ≡ true → (a || b) ≡ true
or_left a b e = rw e refl

pub or_right : (a b : Bool) → b ≡ true → (a || b) ≡ true
or_right true b e = refl
or_right false b e = e

pub and_left : (a b : Bool) → (a && b) ≡ true → a ≡ true
and_left true b e = refl
and_left false b e = absurd cc

pub and_right : (a b : Bool) → (a && b) ≡ true → b ≡ true
and_right true b e = e
and_right false b e = absurd cc

pub both_true : (a b : Bool) → a ≡ true → b ≡ true → (a && b) ≡ true
both_true a b e f = rw (e, f) refl

pub same_bools : (a b : Bool) → (a ≡ true → b ≡ true) → (b ≡ true → a ≡ true) → a ≡ b
same_bools true b f g = sym (f refl)
same_bools false true f g = g refl
same_bools false false f g = refl

pub or_false : (b : Bool) → (b || false) ≡ b
or_false true = refl
or_false false = refl

pub or-assoc : (a b c : Bool) → ((a || b) || c) ≡ (a || (b || c))
or-assoc true b c = refl
or-assoc false b c = refl

pub or-turn : (a b c : Bool) → (a || (b || c)) ≡ ((b || a) || c)
or-turn true true c = refl
or-turn true false c = refl
or-turn false true c = refl
or-turn false false c = refl

pub and-or : (a b c : Bool) → ((a && c) || (b && c)) ≡ ((a || b) && c)
and-or true true true = refl
and-or true true false = refl
and-or true false true = refl
and-or true false false = refl
and-or false true true = refl
and-or false true false = refl
and-or false false c = refl

-- ---- numbers in a list

pub among-append : (xs ys : List ℕ) (n : ℕ) → is_among (xs ++ ys) n ≡ (is_among xs n || is_among ys n)
among-append [] ys n = refl
among-append (x ∷ xs) ys n = ap (λ b. (x == n) || b) (among-append xs ys n) ∙ sym (or-assoc (x == n) (is_among xs n) (is_among ys n))

pub among-more : (xs : List ℕ) (i n : ℕ) → i < length xs → is_among (take (i + 1) xs) n ≡ (is_among (take i xs) n || (get_or xs i 0 == n))
among-more xs i n lt =
    ap (λ w. is_among w n) (take_more xs i 0 lt) ∙ (among-append (take i xs) (get_or xs i 0 ∷ []) n ∙ ap (λ b. is_among (take i xs) n || b)
    (or_false (get_or xs i 0 == n)))

-- ---- a number that is added to a list

-- one more process at one net
pub added : (sensitive : List (List ℕ)) (net number n p : ℕ) → n < length sensitive
    → is_among (get_or (set sensitive net (get_or sensitive net [] ++ number ∷ [])) n []) p
    ≡ (is_among (get_or sensitive n []) p || ((net == n) && (number == p)))
added sensitive net number n p lt = go (eqb net n) refl
  where
    go : (b : Bool) → eqb net n ≡ b → is_among (get_or (set sensitive net (get_or sensitive net [] ++ number ∷ [])) n []) p ≡
        (is_among (get_or sensitive n []) p || (b && (number == p)))
    go true e =
        let at : net ≡ n = grind (arith, nat_tests) in
        rw at (ap (λ w. is_among w p) (get_or-set_same sensitive n (get_or sensitive n [] ++ number ∷ []) [] lt)
        ∙ (among-append (get_or sensitive n []) (number ∷ []) p ∙ ap (λ b. is_among (get_or sensitive n []) p || b) (or_false (number == p))))
    go false e =
        let apart : n ≢ net = grind (arith, nat_tests) in
        ap (λ w. is_among w p) (get_or-set_other sensitive net n (get_or sensitive net [] ++ number ∷ []) [] apart)
        ∙ sym (or_false (is_among (get_or sensitive n []) p))

-- one more is resumed, after those before it in the list
pub resumed-more : (numbers : List ℕ) (i p n : ℕ) (was now new : Bool) → i < length numbers → n ≡ get_or numbers i 0 → now ≡
    (is_among (take i numbers) p || was)
    → new ≡ ((n == p) || now) → new ≡ (is_among (take (i + 1) numbers) p || was)
resumed-more numbers i p n was now new lt is e f =
    f ∙ (ap (λ b. (n == p) || b) e ∙ (or-turn (n == p) (is_among (take i numbers) p) was
    ∙ ap (λ b. b || was) (ap (λ m. is_among (take i numbers) p || (m == p)) is ∙ sym (among-more numbers i p lt))))

-- ---- equal places

and_true : (b : Bool) → (b && true) ≡ b
and_true true = refl
and_true false = refl

and_false : (b : Bool) → (b && false) ≡ false
and_false true = refl
and_false false = refl

-- an equality of places that is known
pub at_same : (a : Bool) (i p : ℕ) → i ≡ p → (a && (i == p)) ≡ a
at_same a i p e = let t : eqb i p ≡ true = grind (arith, nat_tests) in rw t (and_true a)

pub at_other : (a : Bool) (i p : ℕ) → i ≢ p → (a && (i == p)) ≡ false
at_other a i p e = let t : eqb i p ≡ false = grind (arith, nat_tests) in rw t (and_false a)

pub eqb-suc : (i p : ℕ) → (suc i == suc p) ≡ (i == p)
eqb-suc i p = go (eqb i p) refl
  where
    go : (b : Bool) → eqb i p ≡ b → (suc i == suc p) ≡ b
    go true e = let t : i ≡ p = grind (arith, nat_tests) in let u : eqb (suc i) (suc p) ≡ true = grind (arith, nat_tests) in u
    go false e = let t : i ≢ p = grind (arith, nat_tests) in let u : eqb (suc i) (suc p) ≡ false = grind (arith, nat_tests) in u
