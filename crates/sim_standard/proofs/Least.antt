-- The test holds of exactly the places of the least set, and what is kept stands at these places.
use Rattle.std.proofs.Common.{ℕ, zero, suc, ◌+◌, ◌-◌, ◌<◌, ◌≤◌, ◌≡◌, ltb, Bool, true, false, ◌&&◌, ◌||◌, ◌↔◌, if◌then◌else◌, List, [], ◌∷◌, ◌++◌, length}
use Rattle.std.proofs.Common.{drop, refl, ap, sym, ◌∙◌, subst, arith, inl, inr, ◌⊎◌, length-append, append_assoc}
use Rattle.std.proofs.lemmas.Bool.Decides.{nat_tests}
use Rattle.std.proofs.lemmas.List.{get_or_append_left, get_or_at, drop_all}
use Rattle.std.proofs.Math.Seq.{drop-cons}
use Rattle.sim_logic.specs.declared.logic.Logic.{Logic}
use Rattle.sim_logic.specs.declared.logic.Logic.TheVariants.{U}
use Rattle.sim_logic.specs.Logic.{is_same}
use Rattle.sim_logic.proofs.SameValues.{is_same_from_same, same_from_is_same}
use Rattle.sim_standard.specs.Drivers.{Transaction, transaction_at}
use Rattle.sim_standard.specs.Editing.{Marked, Is_new, Is_early, Is_before, at_places, is_marked, is_marked_at, marked_of}
use Rattle.sim_standard.proofs.Keeping.{early-marked, or-true}

-- the last old one is marked if it has the value of the first new one
before-new : (limit : ℕ) (v : Logic) (x : Transaction) → x.1 ≡ v → is_marked limit v x [] ≡ true
before-new limit v x e = or-true (ltb x.0 limit) (is_same_from_same x.1 v e)

-- one is marked if it has the value of a marked one after it
before-old : (limit : ℕ) (v : Logic) (x y : Transaction) (ys : List Transaction) → x.1 ≡ y.1 → is_marked limit v y ys ≡ true
    → is_marked limit v x (y ∷ ys) ≡ true
before-old limit v x y ys e m =
    or-true (ltb x.0 limit) (ap (λ (b : Bool). b && is_marked limit v y ys) (is_same_from_same x.1 y.1 e) ∙ m)

none-after : (old : List Transaction) (i : ℕ) → suc i ≡ length old → drop (suc i) old ≡ []
none-after old i e = drop_all (suc i) old (omega arith)

value_of_old : (old new : List Transaction) (i : ℕ) → i < length old → (transaction_at (old ++ new) i).1 ≡ (transaction_at old i).1
value_of_old old new i h = ap (λ (t : Transaction). t.1) (get_or_append_left old new (0, U) i h)

value_of_first : (old : List Transaction) (n : Transaction) (ns : List Transaction) (i : ℕ) → length old ≡ i → (transaction_at (old ++ n ∷ ns) i).1 ≡ n.1
value_of_first old n ns i e = ap (λ (t : Transaction). t.1) (get_or_at old n ns (0, U) i e)

-- a place, by the next one
step : (limit : ℕ) (old : List Transaction) (n : Transaction) (ns : List Transaction) (i : ℕ) → i < length old
    → (transaction_at (old ++ n ∷ ns) i).1 ≡ (transaction_at (old ++ n ∷ ns) (suc i)).1
    → (suc i < length old → is_marked_at limit old n.1 (suc i) ≡ true)
    → (suc i < length old) ⊎ (suc i ≡ length old) → is_marked_at limit old n.1 i ≡ true
step limit old n ns i h same ih (inl lt) =
    let e : (transaction_at old i).1 ≡ (transaction_at old (suc i)).1 =
    sym (value_of_old old (n ∷ ns) i h) ∙ (same ∙ value_of_old old (n ∷ ns) (suc i) lt) in
    let rest : drop (suc i) old ≡ transaction_at old (suc i) ∷ drop (suc (suc i)) old = drop-cons old (suc i) (0, U) lt in
    rw rest (before-old limit n.1 (transaction_at old i) (transaction_at old (suc i)) (drop (suc (suc i)) old) e (ih lt))
step limit old n ns i h same ih (inr last) =
    let e : (transaction_at old i).1 ≡ n.1 =
    sym (value_of_old old (n ∷ ns) i h) ∙ (same ∙ value_of_first old n ns (suc i) (sym last)) in
    rw (none-after old i last) (before-new limit n.1 (transaction_at old i) e)

last_or_not : (i n : ℕ) → i < n → (suc i < n) ⊎ (suc i ≡ n)
last_or_not i n h = grind arith

-- a marked place passes the test
pub test_from_Marked : (limit : ℕ) (old : List Transaction) (n : Transaction) (ns : List Transaction) (i : ℕ) → Marked limit old (n ∷ ns) i → i < length old
    → is_marked_at limit old n.1 i ≡ true
test_from_Marked limit old n ns i (Is_new i' le lt) h = absurd (omega arith)
test_from_Marked limit old n ns i (Is_early i' lt early) h = early-marked limit n.1 (transaction_at old i) (drop (suc i) old) early
test_from_Marked limit old n ns i (Is_before i' lt same m) h =
    step limit old n ns i h same (test_from_Marked limit old n ns (suc i) m) (last_or_not i (length old) h)

-- why the last old one is marked
why-last : (limit : ℕ) (v : Logic) (x : Transaction) → is_marked limit v x [] ≡ true → (x.0 < limit) ⊎ (x.1 ≡ v)
why-last limit v x m = go (ltb x.0 limit) refl m
  where
    go : (a : Bool) → ltb x.0 limit ≡ a → (a || is_same x.1 v) ≡ true → (x.0 < limit) ⊎ (x.1 ≡ v)
    go true p m = inl (grind (arith, nat_tests))
    go false p m = inr (same_from_is_same x.1 v m)

-- why an old one before another is marked
why-before : (limit : ℕ) (v : Logic) (x y : Transaction) (ys : List Transaction) → is_marked limit v x (y ∷ ys) ≡ true
    → (x.0 < limit) ⊎ ((x.1 ≡ y.1) × (is_marked limit v y ys ≡ true))
why-before limit v x y ys m = go (ltb x.0 limit) (is_same x.1 y.1) refl refl m
  where
    go : (a b : Bool) → ltb x.0 limit ≡ a → is_same x.1 y.1 ≡ b → (a || (b && is_marked limit v y ys)) ≡ true
        → (x.0 < limit) ⊎ ((x.1 ≡ y.1) × (is_marked limit v y ys ≡ true))
    go true b p q m = inl (grind (arith, nat_tests))
    go false true p q m = inr (same_from_is_same x.1 y.1 q, m)
    go false false p q m = absurd cc

-- a place that passes the test is marked, by induction on the number of old ones after it
pub Marked_from_test : (limit : ℕ) (old : List Transaction) (n : Transaction) (ns : List Transaction) (after i : ℕ) → i + suc after ≡ length old
    → is_marked_at limit old n.1 i ≡ true → Marked limit old (n ∷ ns) i
Marked_from_test limit old n ns zero i q m =
    let last : suc i ≡ length old = omega arith in
    let m' : is_marked limit n.1 (transaction_at old i) [] ≡ true = rw (none-after old i last) at m in
    elim (why-last limit n.1 (transaction_at old i) m') [
      | inl early ↦ Is_early i (omega arith) early
      | inr same ↦ Is_before i (omega arith)
          (value_of_old old (n ∷ ns) i (omega arith) ∙ (same ∙ sym (value_of_first old n ns (suc i) (sym last))))
          (Is_new (suc i) (omega arith) (omega arith))
    ]
Marked_from_test limit old n ns (suc after) i q m =
    let more : suc i < length old = omega arith in
    let m' : is_marked limit n.1 (transaction_at old i) (transaction_at old (suc i) ∷ drop (suc (suc i)) old) ≡ true =
    rw (drop-cons old (suc i) (0, U) more) at m in
    elim (why-before limit n.1 (transaction_at old i) (transaction_at old (suc i)) (drop (suc (suc i)) old) m') [
      | inl early ↦ Is_early i (omega arith) early
      | inr both ↦ Is_before i (omega arith)
          (value_of_old old (n ∷ ns) i (omega arith) ∙ (both.0 ∙ sym (value_of_old old (n ∷ ns) (suc i) more)))
          (Marked_from_test limit old n ns after (suc i) (omega arith) both.1)
    ]

-- the test of a place, by what stands at it and after it
marked_at_length : (limit : ℕ) (v : Logic) (front : List Transaction) (x : Transaction) (xs : List Transaction)
    → is_marked_at limit (front ++ x ∷ xs) v (length front) ≡ is_marked limit v x xs
marked_at_length limit v [] x xs = refl
marked_at_length limit v (y ∷ ys) x xs = marked_at_length limit v ys x xs

-- tests that agree on the places from one on keep the same
at_places-agree : (f g : ℕ → Bool) (k : ℕ) (xs : List Transaction) → ((i : ℕ) → k ≤ i → i < k + length xs → f i ≡ g i) → at_places f k xs ≡ at_places g k xs
at_places-agree f g k [] same = refl
at_places-agree f g k (x ∷ xs) same =
    let ih : at_places f (suc k) xs ≡ at_places g (suc k) xs = at_places-agree f g (suc k) xs (λ i l h. same i (omega arith) (omega arith)) in
    ap (λ (w : List Transaction). if f k then x ∷ w else w) ih
    ∙ ap (λ (b : Bool). if b then x ∷ at_places g (suc k) xs else at_places g (suc k) xs) (same k (omega arith) (omega arith))

-- those that are kept stand at the places that pass the test
at_places-marked : (limit : ℕ) (v : Logic) (all front xs : List Transaction) → all ≡ front ++ xs
    → at_places (is_marked_at limit all v) (length front) xs ≡ marked_of limit v xs
at_places-marked limit v all front [] e = refl
at_places-marked limit v all front (x ∷ xs) e =
    let here : is_marked_at limit all v (length front) ≡ is_marked limit v x xs =
    ap (λ (w : List Transaction). is_marked_at limit w v (length front)) e ∙ marked_at_length limit v front x xs in
    let further : at_places (is_marked_at limit all v) (length (front ++ x ∷ [])) xs ≡ marked_of limit v xs =
    at_places-marked limit v all (front ++ x ∷ []) xs (e ∙ sym (append_assoc front (x ∷ []) xs)) in
    let one_more : length (front ++ x ∷ []) ≡ suc (length front) = omega (arith, length-append front (x ∷ [])) in
    let rest : at_places (is_marked_at limit all v) (suc (length front)) xs ≡ marked_of limit v xs =
    subst (λ (k : ℕ). at_places (is_marked_at limit all v) k xs ≡ marked_of limit v xs) one_more further in
    ap (λ (w : List Transaction). if is_marked_at limit all v (length front) then x ∷ w else w) rest
    ∙ ap (λ (b : Bool). if b then x ∷ marked_of limit v xs else marked_of limit v xs) here

same_test : (a b : Bool) → (a ≡ true → b ≡ true) → (b ≡ true → a ≡ true) → a ≡ b
same_test true true f g = refl
same_test true false f g = sym (f refl)
same_test false true f g = g refl
same_test false false f g = refl

-- what is kept stands at the places of the least set, whichever test decides it
pub marked_of-at_places : (limit : ℕ) (old : List Transaction) (n : Transaction) (ns : List Transaction) (test : ℕ → Bool)
    → ((i : ℕ) → i < length old → (test i ≡ true) ↔ Marked limit old (n ∷ ns) i)
    → marked_of limit n.1 old ≡ at_places test 0 old
marked_of-at_places limit old n ns test decides =
    sym (at_places-marked limit n.1 old [] old refl)
    ∙ at_places-agree (is_marked_at limit old n.1) test 0 old (λ i l h.
    same_test (is_marked_at limit old n.1 i) (test i)
    (λ m. (decides i (omega arith)).1 (Marked_from_test limit old n ns (length old - suc i) i (omega arith) m))
    (λ t. test_from_Marked limit old n ns i ((decides i (omega arith)).0 t) (omega arith)))

-- the places of two lists, one after the other
at_places-append : (test : ℕ → Bool) (k : ℕ) (xs ys : List Transaction)
    → at_places test k (xs ++ ys) ≡ at_places test k xs ++ at_places test (k + length xs) ys
at_places-append test k [] ys = ap (λ (n : ℕ). at_places test n ys) (omega arith)
at_places-append test k (x ∷ xs) ys =
    let ih : at_places test (suc k) (xs ++ ys) ≡ at_places test (suc k) xs ++ at_places test (suc k + length xs) ys = at_places-append test (suc k) xs ys in
    let next : suc k + length xs ≡ k + length (x ∷ xs) = omega arith in
    go (test k) (ih ∙ ap (λ (n : ℕ). at_places test (suc k) xs ++ at_places test n ys) next)
  where
    go : (b : Bool) → at_places test (suc k) (xs ++ ys) ≡ at_places test (suc k) xs ++ at_places test (k + length (x ∷ xs)) ys
        → (if b then x ∷ at_places test (suc k) (xs ++ ys) else at_places test (suc k) (xs ++ ys))
        ≡ (if b then x ∷ at_places test (suc k) xs else at_places test (suc k) xs) ++ at_places test (k + length (x ∷ xs)) ys
    go true e = ap (λ (w : List Transaction). x ∷ w) e
    go false e = e

-- if the test holds of each place, all stay
at_places-all : (test : ℕ → Bool) (k : ℕ) (xs : List Transaction) → ((i : ℕ) → k ≤ i → i < k + length xs → test i ≡ true) → at_places test k xs ≡ xs
at_places-all test k [] holds = refl
at_places-all test k (x ∷ xs) holds =
    rw (holds k (omega arith) (omega arith))
    (ap (λ (w : List Transaction). x ∷ w) (at_places-all test (suc k) xs (λ i l h. holds i (omega arith) (omega arith))))

-- the old marked ones, and then the new ones
pub marked-at_places : (limit : ℕ) (old : List Transaction) (n : Transaction) (ns : List Transaction) (test : ℕ → Bool)
    → ((i : ℕ) → i < length (old ++ n ∷ ns) → (test i ≡ true) ↔ Marked limit old (n ∷ ns) i)
    → marked_of limit n.1 old ++ n ∷ ns ≡ at_places test 0 (old ++ n ∷ ns)
marked-at_places limit old n ns test decides =
    let all : length (old ++ n ∷ ns) ≡ length old + length (n ∷ ns) = length-append old (n ∷ ns) in
    let kept : marked_of limit n.1 old ≡ at_places test 0 old =
    marked_of-at_places limit old n ns test (λ i h. decides i (omega arith)) in
    let new : at_places test (0 + length old) (n ∷ ns) ≡ n ∷ ns =
    at_places-all test (0 + length old) (n ∷ ns) (λ i l h. (decides i (omega arith)).1 (Is_new i (omega arith) (omega arith))) in
    sym (at_places-append test 0 old (n ∷ ns)
    ∙ (ap (λ (w : List Transaction). at_places test 0 old ++ w) new ∙ ap (λ (w : List Transaction). w ++ n ∷ ns) (sym kept)))
