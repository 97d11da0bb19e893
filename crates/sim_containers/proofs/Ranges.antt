-- The numbers below a bound that pass a test.
use Rattle.std.proofs.Common.{replicate, MatchOption, Option, Some, None, IfSome, IfNone, ℕ, zero, suc, ◌+◌, ◌-◌, ◌<◌, ◌≤◌, ◌≡◌, ◌≢◌, ◌⊎◌, inl, inr, Bool}
use Rattle.std.proofs.Common.{true, false, cond, List, [], ◌∷◌, ◌++◌, length, map, take, drop, get_or, set, refl, ap, ◌∙◌, sym}
use Rattle.std.proofs.Common.{subst, arith, eqb}
use Rattle.std.proofs.lemmas.Bool.Decides.{nat_tests}
use Rattle.std.proofs.lemmas.List.{map-id, append-nil, append_assoc, length_push, length-append, take-append-le, take_all, ext_get_or, length-replicate}
use Rattle.std.proofs.lemmas.List.{length-set, get_or-set_same, get_or-set_other}
use Rattle.std.proofs.Math.Seq.{get_or-append_seam}
use Rattle.std.proofs.Math.ListN.{get_or-append}
use Rattle.std.proofs.lemmas.List.Prefix.{front_rest}
use Rattle.std.proofs.lemmas.List.FromFn.{filter_of_map_range_with_len_more}
use Rattle.std.specs.List.{filter, range_with_len, insert}
use Rattle.sim_containers.specs.Words.{IsNext, IsOnly, NoneFrom}
use Rattle.sim_containers.proofs.Bits.{not_both}
use Rattle.sim_containers.proofs.Sets.{in_none, member_within}
use Rattle.sim_containers.specs.Numbers.{is_in, members, IsListed}

abbrev pub below : (ℕ → Bool) → ℕ → List ℕ
below p n = filter p (range_with_len 0 n)

below_suc : (p : ℕ → Bool) (n : ℕ) → below p (suc n) ≡ below p n ++ cond (p n) (n ∷ []) []
below_suc p n =
    let e : n + 1 ≡ suc n = omega arith in
    let z : 0 + n ≡ n = omega arith in
    let more = filter_of_map_range_with_len_more p (λ (x : ℕ). x) 0 n n z in
    let more' = subst (λ (m : ℕ). filter p (map (λ (x : ℕ). x) (range_with_len 0 m)) ≡ filter p (map (λ (x : ℕ). x) (range_with_len 0 n)) ++ cond
    (p n) (n ∷ []) []) e more in
    ap (λ (l : List ℕ). filter p l) (sym (map-id (range_with_len 0 (suc n))))
    ∙ (more' ∙ ap (λ (l : List ℕ). filter p l ++ cond (p n) (n ∷ []) []) (map-id (range_with_len 0 n)))

pub below_passed : (p : ℕ → Bool) (n : ℕ) → p n ≡ true → below p (suc n) ≡ below p n ++ n ∷ []
below_passed p n h = below_suc p n ∙ ap (λ (b : Bool). below p n ++ cond b (n ∷ []) []) h

pub below_failed : (p : ℕ → Bool) (n : ℕ) → p n ≡ false → below p (suc n) ≡ below p n
below_failed p n h = below_suc p n ∙ (ap (λ (b : Bool). below p n ++ cond b (n ∷ []) []) h ∙ append-nil (below p n))

-- a stretch where the test fails
skipped : (p : ℕ → Bool) (k a b : ℕ) → b ≡ a + k → ((i : ℕ) → a ≤ i → i < b → p i ≡ false) → below p b ≡ below p a
skipped p zero a b e h = let q : b ≡ a = omega arith in ap (below p) q
skipped p (suc k) a zero e h = absurd (omega arith)
skipped p (suc k) a (suc b) e h = below_failed p b (h b (omega arith) (omega arith)) ∙ skipped p k a b (omega arith) (λ i l m. h i l (omega arith))

pub below_skipped : (p : ℕ → Bool) (a b : ℕ) → a ≤ b → ((i : ℕ) → a ≤ i → i < b → p i ≡ false) → below p a ≡ below p b
below_skipped p a b le h = sym (skipped p (distance le).0 a b (distance le).1 h)
  where
    distance : a ≤ b → (k : ℕ) × (b ≡ a + k)
    distance le = (b - a, omega arith)

-- the next one that passes
pub below_next : (p : ℕ → Bool) (a n m : ℕ) → m ≡ n + 1 → a ≤ n → ((i : ℕ) → a ≤ i → i < n → p i ≡ false) → p n ≡ true → below p m ≡ below p a ++ n ∷ []
below_next p a n m e le skip here =
    let e' : m ≡ suc n = omega arith in
    ap (below p) e' ∙ (below_passed p n here ∙ ap (λ (l : List ℕ). l ++ n ∷ []) (sym (below_skipped p a n le skip)))

-- no more numbers than there are
pub few_below : (p : ℕ → Bool) (n : ℕ) → length (below p n) ≤ n
few_below p zero = omega arith
few_below p (suc n) = go (few_below p n) (p n) refl
  where
    go : length (below p n) ≤ n → (b : Bool) → p n ≡ b → length (below p (suc n)) ≤ suc n
    go le true h = let e : length (below p (suc n)) ≡ length (below p n) + 1 = ap length (below_passed p n h) ∙ length_push (below p n) n in omega arith
    go le false h = let e : length (below p (suc n)) ≡ length (below p n) = ap length (below_failed p n h) in omega arith

-- the number of those that pass below a bound
abbrev pub count : (ℕ → Bool) → ℕ → ℕ
count p n = length (below p n)

below_at : (p : ℕ → Bool) (k n : ℕ) → below p (n + suc k) ≡ below p (n + k) ++ cond (p (n + k)) ((n + k) ∷ []) []
below_at p k n = let e : n + suc k ≡ suc (n + k) = omega arith in ap (below p) e ∙ below_suc p (n + k)

-- it increases with the bound
rises : (p : ℕ → Bool) (k n : ℕ) → count p n ≤ count p (n + k)
rises p zero n = let e : n + 0 ≡ n = omega arith in subst (λ (m : ℕ). count p n ≤ count p m) (sym e) (omega arith)
rises p (suc k) n =
    let le : count p n ≤ count p (n + k) = rises p k n in
    let e : count p (n + suc k) ≡ count p (n + k) + length (cond (p (n + k)) ((n + k) ∷ []) []) =
    ap length (below_at p k n) ∙ length-append (below p (n + k)) (cond (p (n + k)) ((n + k) ∷ []) []) in
    omega arith

pub count_rises : (p : ℕ → Bool) (n m : ℕ) → n ≤ m → count p n ≤ count p m
count_rises p n m le = let e : n + (m - n) ≡ m = omega arith in subst (λ (j : ℕ). count p n ≤ count p j) e (rises p (m - n) n)

-- one that passes counts
pub count_passed : (p : ℕ → Bool) (n : ℕ) → p n ≡ true → count p (n + 1) ≡ count p n + 1
count_passed p n h =
    let e : n + 1 ≡ suc n = omega arith in
    ap (count p) e ∙ (ap length (below_passed p n h) ∙ length_push (below p n) n)

side : (i n : ℕ) → (i < n) ⊎ (n ≤ i)
side i n = grind arith

-- the list of those below a number begins with the list of those below a smaller number
begins : (p : ℕ → Bool) (k n i : ℕ) → i < count p n → get_or (below p (n + k)) i 0 ≡ get_or (below p n) i 0
begins p zero n i l = let e : n + 0 ≡ n = omega arith in ap (λ (m : ℕ). get_or (below p m) i 0) e
begins p (suc k) n i l =
    let le : count p n ≤ count p (n + k) = rises p k n in
    ap (λ (xs : List ℕ). get_or xs i 0) (below_at p k n)
    ∙ (get_or-append (below p (n + k)) (cond (p (n + k)) ((n + k) ∷ []) []) 0 i (omega arith) ∙ begins p k n i l)

-- those listed below a number are below it
under_own : (p : ℕ → Bool) (n i : ℕ) → i < count p n → get_or (below p n) i 0 < n
under_own p zero i l = absurd (omega arith)
under_own p (suc n) i l = go (p n) refl (side i (count p n)) (under_own p n i)
  where
    go : (b : Bool) → p n ≡ b → (i < count p n) ⊎ (count p n ≤ i) → (i < count p n → get_or (below p n) i 0 < n) → get_or (below p (suc n)) i 0 < suc n
    go b h (inl lt) own =
        let e : n + 1 ≡ suc n = omega arith in
        let same : get_or (below p (n + 1)) i 0 ≡ get_or (below p n) i 0 = begins p 1 n i lt in
        let small : get_or (below p n) i 0 < n = own lt in
        let same' : get_or (below p (suc n)) i 0 ≡ get_or (below p n) i 0 = subst (λ (m : ℕ). get_or (below p m) i 0 ≡ get_or (below p n) i 0) e same in
        omega arith
    go true h (inr ge) own =
        let len : count p (suc n) ≡ count p n + 1 = ap length (below_passed p n h) ∙ length_push (below p n) n in
        let at : i ≡ count p n = omega arith in
        let last : get_or (below p (suc n)) (count p n) 0 ≡ n = ap (λ (xs : List ℕ). get_or xs (count p n) 0) (below_passed p n h)
        ∙ get_or-append_seam (below p n) n [] 0 in
        let here : get_or (below p (suc n)) i 0 ≡ n = ap (λ (j : ℕ). get_or (below p (suc n)) j 0) at ∙ last in
        omega arith
    go false h (inr ge) own = let len : count p (suc n) ≡ count p n = ap length (below_failed p n h) in absurd (omega arith)

pub under : (p : ℕ → Bool) (n m i : ℕ) → n ≤ m → i < count p n → get_or (below p m) i 0 < n
under p n m i le l =
    let e : n + (m - n) ≡ m = omega arith in
    let small : get_or (below p n) i 0 < n = under_own p n i l in
    let same : get_or (below p m) i 0 ≡ get_or (below p n) i 0 =
    subst (λ (j : ℕ). get_or (below p j) i 0 ≡ get_or (below p n) i 0) e (begins p (m - n) n i l) in
    omega arith

-- the others are not
over_more : (p : ℕ → Bool) (k n i : ℕ) → count p n ≤ i → i < count p (n + k) → n ≤ get_or (below p (n + k)) i 0
over_more p zero n i ge l = let e : count p (n + 0) ≡ count p n = ap (count p) (omega arith) in absurd (omega arith)
over_more p (suc k) n i ge l = go (p (n + k)) refl (side i (count p (n + k))) (over_more p k n i ge)
  where
    e : n + suc k ≡ suc (n + k)
    e = omega arith

    go : (b : Bool) → p (n + k) ≡ b → (i < count p (n + k)) ⊎ (count p (n + k) ≤ i) → (i < count p (n + k) → n ≤ get_or (below p (n + k)) i 0)
        → n ≤ get_or (below p (n + suc k)) i 0
    go b h (inl lt) own =
        let same : get_or (below p (n + suc k)) i 0 ≡ get_or (below p (n + k)) i 0 = ap (λ (xs : List ℕ). get_or xs i 0) (below_at p k n)
        ∙ get_or-append (below p (n + k)) (cond (p (n + k)) ((n + k) ∷ []) []) 0 i lt in
        let big : n ≤ get_or (below p (n + k)) i 0 = own lt in
        omega arith
    go true h (inr ge') own =
        let made : below p (n + suc k) ≡ below p (n + k) ++ (n + k) ∷ [] = ap (below p) e ∙ below_passed p (n + k) h in
        let len : count p (n + suc k) ≡ count p (n + k) + 1 = ap length made ∙ length_push (below p (n + k)) (n + k) in
        let at : i ≡ count p (n + k) = omega arith in
        let last : get_or (below p (n + suc k)) (count p (n + k)) 0 ≡ n + k = ap (λ (xs : List ℕ). get_or xs (count p (n + k)) 0) made
        ∙ get_or-append_seam (below p (n + k)) (n + k) [] 0 in
        let here : get_or (below p (n + suc k)) i 0 ≡ n + k = ap (λ (j : ℕ). get_or (below p (n + suc k)) j 0) at ∙ last in
        omega arith
    go false h (inr ge') own =
        let len : count p (n + suc k) ≡ count p (n + k) = ap length (ap (below p) e ∙ below_failed p (n + k) h) in
        absurd (omega arith)

pub over : (p : ℕ → Bool) (n m i : ℕ) → n ≤ m → count p n ≤ i → i < count p m → n ≤ get_or (below p m) i 0
over p n m i le ge l =
    let e : n + (m - n) ≡ m = omega arith in
    let l' : i < count p (n + (m - n)) = subst (λ (j : ℕ). i < count p j) (sym e) l in
    subst (λ (j : ℕ). n ≤ get_or (below p j) i 0) e (over_more p (m - n) n i ge l')

-- each passes
pub each_passes : (p : ℕ → Bool) (n i : ℕ) → i < count p n → p (get_or (below p n) i 0) ≡ true
each_passes p zero i l = absurd (omega arith)
each_passes p (suc n) i l = go (p n) refl (side i (count p n)) (each_passes p n i)
  where
    go : (b : Bool) → p n ≡ b → (i < count p n) ⊎ (count p n ≤ i) → (i < count p n → p (get_or (below p n) i 0) ≡ true)
        → p (get_or (below p (suc n)) i 0) ≡ true
    go b h (inl lt) own =
        let e : n + 1 ≡ suc n = omega arith in
        let same : get_or (below p (suc n)) i 0 ≡ get_or (below p n) i 0 =
        subst (λ (m : ℕ). get_or (below p m) i 0 ≡ get_or (below p n) i 0) e (begins p 1 n i lt) in
        ap p same ∙ own lt
    go true h (inr ge) own =
        let len : count p (suc n) ≡ count p n + 1 = ap length (below_passed p n h) ∙ length_push (below p n) n in
        let at : i ≡ count p n = omega arith in
        let last : get_or (below p (suc n)) (count p n) 0 ≡ n = ap (λ (xs : List ℕ). get_or xs (count p n) 0) (below_passed p n h)
        ∙ get_or-append_seam (below p n) n [] 0 in
        ap p (ap (λ (j : ℕ). get_or (below p (suc n)) j 0) at ∙ last) ∙ h
    go false h (inr ge) own = let len : count p (suc n) ≡ count p n = ap length (below_failed p n h) in absurd (omega arith)

-- the index of one that passes is the number of those that pass below it
pub stands : (p : ℕ → Bool) (n m : ℕ) → n < m → p n ≡ true → (count p n < count p m) × (get_or (below p m) (count p n) 0 ≡ n)
stands p n m l h =
    let len : count p (suc n) ≡ count p n + 1 = ap length (below_passed p n h) ∙ length_push (below p n) n in
    let le : count p (suc n) ≤ count p m = count_rises p (suc n) m (omega arith) in
    let e : suc n + (m - suc n) ≡ m = omega arith in
    let same : get_or (below p m) (count p n) 0 ≡ get_or (below p (suc n)) (count p n) 0 =
    subst (λ (j : ℕ). get_or (below p j) (count p n) 0 ≡ get_or (below p (suc n)) (count p n) 0) e
    (begins p (m - suc n) (suc n) (count p n) (omega arith)) in
    (omega arith, same ∙ (ap (λ (xs : List ℕ). get_or xs (count p n) 0) (below_passed p n h) ∙ get_or-append_seam (below p n) n [] 0))

-- those from a number on
rest : (ℕ → Bool) → ℕ → ℕ → List ℕ
rest p n zero = []
rest p n (suc k) = rest p n k ++ cond (p (n + k)) ((n + k) ∷ []) []

parted : (p : ℕ → Bool) (n k : ℕ) → below p (n + k) ≡ below p n ++ rest p n k
unfolding rest
parted p n zero = let e : n + 0 ≡ n = omega arith in ap (below p) e ∙ sym (append-nil (below p n))
parted p n (suc k) =
    below_at p k n ∙ (ap (λ (xs : List ℕ). xs ++ cond (p (n + k)) ((n + k) ∷ []) []) (parted p n k)
    ∙ append_assoc (below p n) (rest p n k) (cond (p (n + k)) ((n + k) ∷ []) []))

same_rest : (p q : ℕ → Bool) (n k : ℕ) → ((j : ℕ) → n ≤ j → q j ≡ p j) → rest q n k ≡ rest p n k
unfolding rest
same_rest p q n zero same = refl
same_rest p q n (suc k) same =
    ap (λ (xs : List ℕ). xs ++ cond (q (n + k)) ((n + k) ∷ []) []) (same_rest p q n k same)
    ∙ ap (λ (b : Bool). rest p n k ++ cond b ((n + k) ∷ []) []) (same (n + k) (omega arith))

same_below : (p q : ℕ → Bool) (n : ℕ) → ((j : ℕ) → j < n → q j ≡ p j) → below q n ≡ below p n
same_below p q zero same = refl
same_below p q (suc n) same =
    below_suc q n ∙ (ap (λ (xs : List ℕ). xs ++ cond (q n) (n ∷ []) []) (same_below p q n (λ j l. same j (omega arith)))
    ∙ (ap (λ (b : Bool). below p n ++ cond b (n ∷ []) []) (same n (omega arith)) ∙ sym (below_suc p n)))

-- one more that passes
pub one_more : (p q : ℕ → Bool) (n m : ℕ) → n < m → p n ≡ false → q n ≡ true → ((j : ℕ) → j ≢ n → q j ≡ p j)
    → below q m ≡ insert (below p m) (count p n) n
one_more p q n m l out here others =
    let e : suc n + (m - suc n) ≡ m = omega arith in
    let front : below q (suc n) ≡ below p n ++ n ∷ [] = below_passed q n here
    ∙ ap (λ (xs : List ℕ). xs ++ n ∷ []) (same_below p q n (λ j lt. others j (omega (arith, lt)))) in
    let back : rest q (suc n) (m - suc n) ≡ rest p (suc n) (m - suc n) = same_rest p q (suc n) (m - suc n) (λ j le. others j (omega (arith, le))) in
    let old : below p m ≡ below p n ++ rest p (suc n) (m - suc n) = ap (below p) (sym e) ∙ (parted p (suc n) (m - suc n)
    ∙ ap (λ (xs : List ℕ). xs ++ rest p (suc n) (m - suc n)) (below_failed p n out)) in
    let new : below q m ≡ (below p n ++ n ∷ []) ++ rest p (suc n) (m - suc n) = ap (below q) (sym e) ∙ (parted q (suc n) (m - suc n)
    ∙ (ap (λ (xs : List ℕ). xs ++ rest q (suc n) (m - suc n)) front ∙ ap (λ (xs : List ℕ). (below p n ++ n ∷ []) ++ xs) back)) in
    let taken : take (count p n) (below p m) ≡ below p n = ap (take (count p n)) old
    ∙ (take-append-le (count p n) (below p n) (rest p (suc n) (m - suc n)) (omega arith) ∙ take_all (count p n) (below p n) (omega arith)) in
    let dropped : drop (count p n) (below p m) ≡ rest p (suc n) (m - suc n) = front_rest (below p m) (below p n) (rest p (suc n) (m - suc n)) old in
    new ∙ (append_assoc (below p n) (n ∷ []) (rest p (suc n) (m - suc n))
    ∙ (ap (λ (xs : List ℕ). xs ++ n ∷ rest p (suc n) (m - suc n)) (sym taken) ∙ ap (λ (xs : List ℕ). take (count p n) (below p m) ++ n ∷ xs) (sym dropped)))

-- nothing passes below a number
pub nothing_below : (p : ℕ → Bool) (n : ℕ) → ((i : ℕ) → i < n → p i ≡ false) → below p n ≡ []
nothing_below p n none = sym (below_skipped p 0 n (omega arith) (λ i le l. none i l))

-- if there is no member, there is nothing to list
pub none_below : (set' : List Bool) (n : ℕ) → set' ≡ replicate n false → below (λ (i : ℕ). get_or set' i false) (length set') ≡ []
none_below set' n e = nothing_below (λ (i : ℕ). get_or set' i false) (length set') (λ i l. ap (λ (s : List Bool). get_or s i false) e ∙ in_none n i)

pub member_small : (set' : List Bool) (numbers : List ℕ) (i : ℕ) → numbers ≡ members set' → i < length numbers → get_or numbers i 0 < length set'
member_small set' numbers i e l =
    let len : length numbers ≡ count (is_in set') (length set') = ap length e in
    subst (λ (xs : List ℕ). get_or xs i 0 < length set') (sym e) (under_own (is_in set') (length set') i (omega arith))

-- there is room for a number that is not a member
room_more : (p : ℕ → Bool) (k n : ℕ) → p n ≡ false → count p (suc n + k) < suc n + k
room_more p zero n h =
    let z : suc n + 0 ≡ suc n = omega arith in
    let e : count p (suc n + 0) ≡ count p n = ap (count p) z ∙ ap length (below_failed p n h) in
    let few : count p n ≤ n = few_below p n in
    omega arith
room_more p (suc k) n h = go (room_more p k n h) (p (suc n + k)) refl
  where
    e : suc n + suc k ≡ suc (suc n + k)
    e = omega arith

    go : count p (suc n + k) < suc n + k → (b : Bool) → p (suc n + k) ≡ b → count p (suc n + suc k) < suc n + suc k
    go less true q =
        let len : count p (suc n + suc k) ≡ count p (suc n + k) + 1 =
        ap length (ap (below p) e ∙ below_passed p (suc n + k) q) ∙ length_push (below p (suc n + k)) (suc n + k) in
        omega arith
    go less false q =
        let len : count p (suc n + suc k) ≡ count p (suc n + k) = ap length (ap (below p) e ∙ below_failed p (suc n + k) q) in
        omega arith

pub fresh_room : (p : ℕ → Bool) (n m : ℕ) → n < m → p n ≡ false → count p m < m
fresh_room p n m l h =
    let e : suc n + (m - suc n) ≡ m = omega arith in
    subst (λ (j : ℕ). count p j < j) e (room_more p (m - suc n) n h)

-- the index at which a number is inserted is the number of members below it
pub place_is : (p : ℕ → Bool) (m n k : ℕ) (list : List ℕ) → list ≡ below p m → n < m → p n ≡ false → k ≤ length list
    → ((i : ℕ) → i < length list → k ≤ i → n ≤ get_or list i 0) → (0 < k → get_or list (k - 1) 0 ≤ n) → k ≡ count p n
place_is p m n k list e l out within after before = go (side k (count p n)) (side (count p n) k)
  where
    long : length list ≡ count p m
    long = ap length e

    le : count p n ≤ count p m
    le = count_rises p n m (omega (arith, l))

    go : (k < count p n) ⊎ (count p n ≤ k) → (count p n < k) ⊎ (k ≤ count p n) → k ≡ count p n
    go (inl lt) _ =
        let small : get_or (below p m) k 0 < n = under p n m k (omega (arith, l)) lt in
        let small' : get_or list k 0 < n = subst (λ (xs : List ℕ). get_or xs k 0 < n) (sym e) small in
        let big : n ≤ get_or list k 0 = after k (omega (arith, lt, le, long)) (omega arith) in
        absurd (omega arith)
    go (inr ge) (inl gt) =
        let big : n ≤ get_or (below p m) (k - 1) 0 = over p n m (k - 1) (omega (arith, l)) (omega arith) (omega (arith, within, long, gt)) in
        let big' : n ≤ get_or list (k - 1) 0 = subst (λ (xs : List ℕ). n ≤ get_or xs (k - 1) 0) (sym e) big in
        let small : get_or list (k - 1) 0 ≤ n = before (omega arith) in
        let here : get_or (below p m) (k - 1) 0 ≡ n = ap (λ (xs : List ℕ). get_or xs (k - 1) 0) (sym e) ∙ (omega arith) in
        absurd (not_both (p n) out (sym (ap p here) ∙ each_passes p m (k - 1) (omega (arith, within, long, gt))))
    go (inr ge) (inr le') = omega arith

-- one more member is listed
pub listed_more : (set' : List Bool) (n k : ℕ) (list new : List ℕ) → list ≡ members set' → n < length set' → is_in set' n ≡ false
    → k ≤ length list → ((i : ℕ) → i < length list → k ≤ i → n ≤ get_or list i 0) → (0 < k → get_or list (k - 1) 0 ≤ n)
    → new ≡ insert list k n → new ≡ members (set set' n true)
listed_more set' n k list new e l out within after before made =
    let at : k ≡ count (is_in set') n = place_is (is_in set') (length set') n k list e l out within after before in
    let more : below (is_in (set set' n true)) (length set') ≡ insert (below (is_in set') (length set')) (count (is_in set') n) n =
    one_more (is_in set') (is_in (set set' n true)) n (length set') l out (get_or-set_same set' n true false l)
    (λ j differ. get_or-set_other set' n j true false differ) in
    made ∙ (ap (λ (j : ℕ). insert list j n) at ∙ (ap (λ (xs : List ℕ). insert xs (count (is_in set') n) n) e
    ∙ (sym more ∙ ap (below (is_in (set set' n true))) (sym (length-set set' n true)))))

-- the index at which the members from a number on begin
pub place_of : (p : ℕ → Bool) (m from k : ℕ) (list : List ℕ) → list ≡ below p m → from ≤ m → k ≤ length list
    → (k < length list → from ≤ get_or list k 0) → (0 < k → get_or list (k - 1) 0 < from) → k ≡ count p from
place_of p m from k list e l within after before = go (side k (count p from)) (side (count p from) k)
  where
    long : length list ≡ count p m
    long = ap length e

    le : count p from ≤ count p m
    le = count_rises p from m l

    go : (k < count p from) ⊎ (count p from ≤ k) → (count p from < k) ⊎ (k ≤ count p from) → k ≡ count p from
    go (inl lt) _ =
        let small : get_or list k 0 < from = subst (λ (xs : List ℕ). get_or xs k 0 < from) (sym e) (under p from m k l lt) in
        let big : from ≤ get_or list k 0 = after (omega (arith, lt, le, long)) in
        absurd (omega arith)
    go (inr ge) (inl gt) =
        let big : from ≤ get_or list (k - 1) 0 = subst (λ (xs : List ℕ). from ≤ get_or xs (k - 1) 0) (sym e)
        (over p from m (k - 1) l (omega arith) (omega (arith, within, long, gt))) in
        let small : get_or list (k - 1) 0 < from = before (omega arith) in
        absurd (omega arith)
    go (inr ge) (inr le') = omega arith

-- none passes between two numbers below which equally many pass
pub none_between : (p : ℕ → Bool) (from n : ℕ) → count p n ≤ count p from → (m : ℕ) → from ≤ m → m < n → p m ≡ false
none_between p from n few m le l = go (p m) refl
  where
    go : (b : Bool) → p m ≡ b → p m ≡ false
    go false h = h
    go true h =
        let one : count p (m + 1) ≡ count p m + 1 = count_passed p m h in
        let a : count p from ≤ count p m = count_rises p from m le in
        let b : count p (m + 1) ≤ count p n = count_rises p (m + 1) n (omega (arith, l)) in
        absurd (omega arith)

-- no more members are below a member than its index says
few_before : (set' : List Bool) (n k : ℕ) (list : List ℕ) → list ≡ members set' → k < length list → get_or list k 0 ≡ n → count (is_in set') n ≤ k
few_before set' n k list e l named = go (side k (count (is_in set') n))
  where
    go : (k < count (is_in set') n) ⊎ (count (is_in set') n ≤ k) → count (is_in set') n ≤ k
    go (inr le) = le
    go (inl lt) =
        let small : get_or list k 0 < length set' = member_small set' list k e l in
        let less : get_or (members set') k 0 < n = under (is_in set') n (length set') k (omega (arith, small, named)) lt in
        let less' : get_or list k 0 < n = subst (λ (xs : List ℕ). get_or xs k 0 < n) (sym e) less in
        absurd (omega (arith, less', named))

-- no number from `from` on is a member, if the last one listed is below it
outside : (set' : List Bool) (from k : ℕ) (list : List ℕ) → list ≡ members set' → k ≤ length list → (0 < k → get_or list (k - 1) 0 < from)
    → length list ≤ k → (j : ℕ) → from ≤ j → is_in set' j ≡ false
outside set' from k list e within before ge j le = go (is_in set' j) refl
  where
    go : (b : Bool) → is_in set' j ≡ b → is_in set' j ≡ false
    go false h = h
    go true h =
        let at = stands (is_in set') j (length set') (member_within set' j h) h in
        let long : length list ≡ count (is_in set') (length set') = ap length e in
        let some : 0 < k = omega (arith, at.0, long, ge) in
        let last : get_or list (k - 1) 0 < from = before some in
        let big : j ≤ get_or (members set') (k - 1) 0 = over (is_in set') j (length set') (k - 1) (omega (arith, member_within set' j h))
        (omega (arith, at.0, long, ge, within)) (omega (arith, some, long, within)) in
        let big' : j ≤ get_or list (k - 1) 0 = subst (λ (xs : List ℕ). j ≤ get_or xs (k - 1) 0) (sym e) big in
        absurd (omega (arith, last, big', le))

-- the number at an index is the next member
pub next_listed : (set' : List Bool) (from k : ℕ) (list : List ℕ) (o : Option ℕ) → list ≡ members set' → k ≤ length list
    → (k < length list → from ≤ get_or list k 0) → (0 < k → get_or list (k - 1) 0 < from)
    → IfSome o (λ (n : ℕ). (k < length list) × (n ≡ get_or list k 0)) → IfNone o (length list ≤ k)
    → MatchOption o (NoneFrom (is_in set') from) (IsNext (is_in set') from)
next_listed set' from k list o e within after before some none = go (side (length set') from) o some none
  where
    go : (length set' < from) ⊎ (from ≤ length set') → (o : Option ℕ) → IfSome o (λ (n : ℕ). (k < length list) × (n ≡ get_or list k 0))
        → IfNone o (length list ≤ k) → MatchOption o (NoneFrom (is_in set') from) (IsNext (is_in set') from)
    go _ None _ ge = outside set' from k list e within before ge
    go (inl lt) (Some n) s _ =
        let small : get_or list k 0 < length set' = member_small set' list k e s.0 in
        let big : from ≤ get_or list k 0 = after s.0 in
        absurd (omega arith)
    go (inr le) (Some n) s _ =
        let at : k ≡ count (is_in set') from = place_of (is_in set') (length set') from k list e le within after before in
        let named : get_or list k 0 ≡ n = sym s.1 in
        let long : length list ≡ count (is_in set') (length set') = ap length e in
        let here : is_in set' n ≡ true = sym (ap (is_in set') (ap (λ (xs : List ℕ). get_or xs k 0) (sym e) ∙ named))
        ∙ each_passes (is_in set') (length set') k (omega (arith, s.0, long)) in
        let stand = stands (is_in set') n (length set') (member_within set' n here) here in
        let few : count (is_in set') n ≤ count (is_in set') from = omega (arith, few_before set' n k list e s.0 named, at) in
        record { further = omega (arith, after s.0, named); passes = here; first = none_between (is_in set') from n few }

-- a member is appended, if there is none from it on
pub listed_last : (set' : List Bool) (n : ℕ) → n < length set' → NoneFrom (is_in set') n → members (set set' n true) ≡ members set' ++ n ∷ []
listed_last set' n l none =
    let e : n + 1 ≡ suc n = omega arith in
    let here : is_in (set set' n true) n ≡ true = get_or-set_same set' n true false l in
    let others : (j : ℕ) → j ≢ n → is_in (set set' n true) j ≡ is_in set' j = λ j differ. get_or-set_other set' n j true false differ in
    let beyond : below (is_in (set set' n true)) (suc n) ≡ below (is_in (set set' n true)) (length set') = below_skipped (is_in (set set' n true)) (suc n)
    (length set') (omega (arith, l)) (λ i ge _. others i (omega (arith, ge)) ∙ none i (omega (arith, ge))) in
    let front : below (is_in (set set' n true)) n ≡ below (is_in set') n = same_below (is_in set') (is_in (set set' n true)) n
    (λ j lt. others j (omega (arith, lt))) in
    let whole : below (is_in set') n ≡ members set' = below_skipped (is_in set') n (length set') (omega (arith, l)) (λ i ge _. none i ge) in
    ap (below (is_in (set set' n true))) (length-set set' n true)
    ∙ (sym beyond ∙ (below_passed (is_in (set set' n true)) n here ∙ ap (λ (xs : List ℕ). xs ++ n ∷ []) (front ∙ whole)))

-- if each listed member was added, and nothing else, all are there
pub all_there : (set' new : List Bool) (numbers : List ℕ) → numbers ≡ members set' → length new ≡ length set'
    → ((m : ℕ) → is_in new m ≡ true → is_in set' m ≡ true) → ((i : ℕ) → i < length numbers → is_in new (get_or numbers i 0) ≡ true) → new ≡ set'
all_there set' new numbers e len sound there = ext_get_or false new set' len (λ m lt. go m (is_in set' m) (is_in new m) refl refl)
  where
    go : (m : ℕ) → (b b' : Bool) → is_in set' m ≡ b → is_in new m ≡ b' → is_in new m ≡ is_in set' m
    go m true b' h k =
        let at = stands (is_in set') m (length set') (member_within set' m h) h in
        let long : length numbers ≡ count (is_in set') (length set') = ap length e in
        let named : get_or numbers (count (is_in set') m) 0 ≡ m = ap (λ (xs : List ℕ). get_or xs (count (is_in set') m) 0) e ∙ at.1 in
        sym (ap (is_in new) named) ∙ (there (count (is_in set') m) (omega (arith, at.0, long)) ∙ sym h)
    go m false true h k = absurd (not_both (is_in set' m) h (sound m k))
    go m false false h k = k ∙ sym h

-- adding a listed member keeps the set within the other
pub sound_more : (set' new : List Bool) (numbers : List ℕ) (i : ℕ) → numbers ≡ members set' → i < length numbers
    → ((m : ℕ) → is_in new m ≡ true → is_in set' m ≡ true) → (m : ℕ) → is_in (set new (get_or numbers i 0) true) m ≡ true → is_in set' m ≡ true
sound_more set' new numbers i e l sound m = go (eqb m (get_or numbers i 0)) refl
  where
    long : length numbers ≡ count (is_in set') (length set')
    long = ap length e

    go : (b : Bool) → eqb m (get_or numbers i 0) ≡ b → is_in (set new (get_or numbers i 0) true) m ≡ true → is_in set' m ≡ true
    go true q _ =
        let at : m ≡ get_or numbers i 0 = grind (arith, nat_tests) in
        ap (is_in set') (at ∙ ap (λ (xs : List ℕ). get_or xs i 0) e) ∙ each_passes (is_in set') (length set') i (omega (arith, l, long))
    go false q here =
        let differ : m ≢ get_or numbers i 0 = grind (arith, nat_tests) in
        sound m (sym (get_or-set_other new (get_or numbers i 0) m true false differ) ∙ here)

-- and those listed so far are in it
pub put_more : (new : List Bool) (numbers : List ℕ) (place : ℕ) → get_or numbers place 0 < length new
    → ((i : ℕ) → i < place → is_in new (get_or numbers i 0) ≡ true) → (i : ℕ) → i < place + 1
    → is_in (set new (get_or numbers place 0) true) (get_or numbers i 0) ≡ true
put_more new numbers place l there i lt = go (eqb (get_or numbers i 0) (get_or numbers place 0)) (eqb i place) refl refl
  where
    go : (b b' : Bool) → eqb (get_or numbers i 0) (get_or numbers place 0) ≡ b → eqb i place ≡ b'
        → is_in (set new (get_or numbers place 0) true) (get_or numbers i 0) ≡ true
    go true _ q _ =
        let at : get_or numbers i 0 ≡ get_or numbers place 0 = grind (arith, nat_tests) in
        ap (is_in (set new (get_or numbers place 0) true)) at ∙ get_or-set_same new (get_or numbers place 0) true false l
    go false true q r =
        let at : i ≡ place = grind (arith, nat_tests) in
        let same : get_or numbers i 0 ≡ get_or numbers place 0 = ap (λ (j : ℕ). get_or numbers j 0) at in
        ap (is_in (set new (get_or numbers place 0) true)) same ∙ get_or-set_same new (get_or numbers place 0) true false l
    go false false q r =
        let differ : get_or numbers i 0 ≢ get_or numbers place 0 = grind (arith, nat_tests) in
        let other : i ≢ place = grind (arith, nat_tests) in
        get_or-set_other new (get_or numbers place 0) (get_or numbers i 0) true false differ ∙ there i (omega (arith, lt, other))

-- one more member is copied, if there is none between
pub copied_more : (set' others : List Bool) (from n : ℕ) → n < length set' → ((m : ℕ) → m < from → is_in set' m ≡ is_in others m)
    → ((m : ℕ) → from ≤ m → is_in set' m ≡ false) → IsNext (is_in others) from n → (m : ℕ) → m < n + 1 → is_in (set set' n true) m ≡ is_in others m
copied_more set' others from n l done rest next m lt = go (eqb m n) refl (side m from)
  where
    go : (b : Bool) → eqb m n ≡ b → (m < from) ⊎ (from ≤ m) → is_in (set set' n true) m ≡ is_in others m
    go true q _ =
        let at : m ≡ n = grind (arith, nat_tests) in
        ap (is_in (set set' n true)) at ∙ (get_or-set_same set' n true false l ∙ (sym next.passes ∙ ap (is_in others) (sym at)))
    go false q (inl before) =
        let differ : m ≢ n = grind (arith, nat_tests) in
        get_or-set_other set' n m true false differ ∙ done m before
    go false q (inr ge) =
        let differ : m ≢ n = grind (arith, nat_tests) in
        get_or-set_other set' n m true false differ ∙ (rest m ge ∙ sym (next.first m ge (omega (arith, lt, differ))))

-- a copy is complete once no member is left
pub copied : (set' others : List Bool) (from : ℕ) → length set' ≡ length others → ((m : ℕ) → m < from → is_in set' m ≡ is_in others m)
    → ((m : ℕ) → from ≤ m → is_in set' m ≡ false) → NoneFrom (is_in others) from → set' ≡ others
copied set' others from len done rest none = ext_get_or false set' others len (λ m _. go m (side m from))
  where
    go : (m : ℕ) → (m < from) ⊎ (from ≤ m) → is_in set' m ≡ is_in others m
    go m (inl before) = done m before
    go m (inr ge) = rest m ge ∙ sym (none m ge)

-- the number at an index at which the members from a number on begin
pub next_here : (set' : List Bool) (from k n : ℕ) (list : List ℕ) → list ≡ members set' → k < length list → from ≤ get_or list k 0
    → (0 < k → get_or list (k - 1) 0 < from) → n ≡ get_or list k 0 → IsNext (is_in set') from n
next_here set' from k n list e l after before named =
    next_listed set' from k list (Some n) e (omega (arith, l)) (λ _. after) before (l, named) tt

-- the only number that is listed
pub only_listed : (set' : List Bool) (list : List ℕ) (n : ℕ) → list ≡ members set' → length list ≡ 1 → n ≡ get_or list 0 0 → IsOnly (is_in set') n
only_listed set' list n e one named = record { passes = next.passes; others = λ m differ. go m differ (side m n) }
  where
    next : IsNext (is_in set') 0 n
    next = next_here set' 0 0 n list e (omega (arith, one)) (omega arith) (λ h. absurd (omega (arith, h))) named

    go : (m : ℕ) → m ≢ n → (m < n) ⊎ (n ≤ m) → is_in set' m ≡ false
    go m differ (inl lt) = next.first m (omega arith) lt
    go m differ (inr ge) =
        outside set' (suc n) 1 list e (omega (arith, one)) (λ _. omega (arith, named)) (omega (arith, one)) m (omega (arith, ge, differ))

-- the bits and the set have the same bound
pub bits_sized : (set' bits : List Bool) (list : List ℕ) (capacity : ℕ) (is_listed : Bool) (end : ℕ) → IsListed set' bits list capacity is_listed end
    → length bits ≡ length set'
bits_sized set' bits list capacity is_listed end i = go is_listed refl
  where
    go : (b : Bool) → is_listed ≡ b → length bits ≡ length set'
    go true h = ap length (i.clear h) ∙ length-replicate (length set') false
    go false h = ap length (i.marked h)

-- if the list has a member, the set is listed
pub with_list : (set' bits : List Bool) (list : List ℕ) (capacity : ℕ) (is_listed : Bool) (end : ℕ) → IsListed set' bits list capacity is_listed end
    → 0 < length list → is_listed ≡ true
with_list set' bits list capacity is_listed end i some = go is_listed refl
  where
    go : (b : Bool) → is_listed ≡ b → is_listed ≡ true
    go true h = h
    go false h = let none : length list ≡ 0 = ap length (i.unlisted h) in absurd (omega arith)

-- there is no member from the end on
pub beyond_end : (set' bits : List Bool) (list : List ℕ) (capacity : ℕ) (is_listed : Bool) (end : ℕ) (now : List Bool)
    → IsListed set' bits list capacity is_listed end → set' ≡ now → NoneFrom (is_in now) end
beyond_end set' bits list capacity is_listed end now i e m le = ap (λ (s : List Bool). is_in s m) (sym e) ∙ i.none m le
