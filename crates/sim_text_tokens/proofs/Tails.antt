-- The bytes that a scan takes as a tail are a tail, and no more are.
use Rattle.std.proofs.Common.{◌≡◌, ℕ, suc, ◌≤◌, Bool, true, false, ◌&&◌, ◌||◌, ◌==◌, [], ◌∷◌, ◌++◌, length, take, refl, arith}
use Rattle.sim_text_tokens.specs.Pieces.{Text, is_tail}
use Rattle.sim_text_tokens.specs.Scan.{tail_len}
use Rattle.sim_text_tokens.proofs.Tests.{by_cases, and_both, or_true}

tail_cons : (test : ℕ → Bool) (b : ℕ) (xs : Text) → test b ≡ true → is_tail test xs ≡ true → is_tail test (b ∷ xs) ≡ true
tail_cons test b [] t h = t
tail_cons test b (x ∷ xs) t h = rw (t, h) refl

tail_under : (test : ℕ → Bool) (b d : ℕ) (xs : Text) → (b == 95) ≡ true → test d ≡ true → is_tail test xs ≡ true → is_tail test (b ∷ d ∷ xs) ≡ true
tail_under test b d xs u t h = or_true (test b && is_tail test (d ∷ xs)) _ (rw (u, t, h) refl)

pub tail_fits : (test : ℕ → Bool) (bs : Text) → is_tail test (take (tail_len test bs) bs) ≡ true
tail_fits test [] = refl
tail_fits test (b ∷ []) = by_cases (test b)
    (λ t. let n : tail_len test (b ∷ []) ≡ 1 = rw t refl in rw n t)
    (λ t. let n : tail_len test (b ∷ []) ≡ 0 = rw t refl in rw n refl)
tail_fits test (b ∷ d ∷ bs) = by_cases (test b)
    (λ t. let n : tail_len test (b ∷ d ∷ bs) ≡ suc (tail_len test (d ∷ bs)) = rw t refl in
    rw n (tail_cons test b (take (tail_len test (d ∷ bs)) (d ∷ bs)) t (tail_fits test (d ∷ bs))))
    (λ t. by_cases (b == 95 && test d)
    (λ u. let n : tail_len test (b ∷ d ∷ bs) ≡ suc (suc (tail_len test bs)) = rw (t, u) refl in
    let w = and_both (b == 95) (test d) u in
    rw n (tail_under test b d (take (tail_len test bs) bs) w.0 w.1 (tail_fits test bs)))
    (λ u. let n : tail_len test (b ∷ d ∷ bs) ≡ 0 = rw (t, u) refl in rw n refl))

pub tail_inside : (test : ℕ → Bool) (bs : Text) → tail_len test bs ≤ length bs
tail_inside test [] = omega arith
tail_inside test (b ∷ []) = by_cases (test b)
    (λ t. let n : tail_len test (b ∷ []) ≡ 1 = rw t refl in omega arith)
    (λ t. let n : tail_len test (b ∷ []) ≡ 0 = rw t refl in omega arith)
tail_inside test (b ∷ d ∷ bs) = by_cases (test b)
    (λ t. let n : tail_len test (b ∷ d ∷ bs) ≡ suc (tail_len test (d ∷ bs)) = rw t refl in
    let ih = tail_inside test (d ∷ bs) in omega arith)
    (λ t. by_cases (b == 95 && test d)
    (λ u. let n : tail_len test (b ∷ d ∷ bs) ≡ suc (suc (tail_len test bs)) = rw (t, u) refl in
    let ih = tail_inside test bs in omega arith)
    (λ u. let n : tail_len test (b ∷ d ∷ bs) ≡ 0 = rw (t, u) refl in omega arith))

-- the second way to begin a tail
under : (a b c : Bool) → (a || (b && c)) ≡ true → a ≡ false → (b ≡ true) × (c ≡ true)
under true b c h f = absurd cc
under false b c h f = and_both b c h

-- a front that is a tail is no longer than `tail_len`
pub tail_most : (test : ℕ → Bool) (front beyond : Text) → is_tail test front ≡ true → length front ≤ tail_len test (front ++ beyond)
tail_most test [] beyond h = omega arith
tail_most test (b ∷ []) [] h = let n : tail_len test (b ∷ []) ≡ 1 = rw h refl in omega arith
tail_most test (b ∷ []) (x ∷ beyond) h = let n : tail_len test (b ∷ x ∷ beyond) ≡ suc (tail_len test (x ∷ beyond)) = rw h refl in omega arith
tail_most test (b ∷ d ∷ bs) beyond h = by_cases (test b)
    (λ t. let n : tail_len test (b ∷ d ∷ (bs ++ beyond)) ≡ suc (tail_len test (d ∷ (bs ++ beyond))) = rw t refl in
    let longer : is_tail test (d ∷ bs) ≡ true = by_cases (is_tail test (d ∷ bs)) (λ x. x) (λ x.
    let w = under (test b && is_tail test (d ∷ bs)) (b == 95) (test d && is_tail test bs) h (rw (t, x) refl) in
    let v = and_both (test d) (is_tail test bs) w.1 in
    tail_cons test d bs v.0 v.1) in
    let ih : suc (length bs) ≤ tail_len test (d ∷ (bs ++ beyond)) = tail_most test (d ∷ bs) beyond longer in
    omega arith)
    (λ t.
    let w = under (test b && is_tail test (d ∷ bs)) (b == 95) (test d && is_tail test bs) h (rw t refl) in
    let v = and_both (test d) (is_tail test bs) w.1 in
    let n : tail_len test (b ∷ d ∷ (bs ++ beyond)) ≡ suc (suc (tail_len test (bs ++ beyond))) = rw (t, w.0, v.0) refl in
    let ih : length bs ≤ tail_len test (bs ++ beyond) = tail_most test bs beyond v.1 in
    omega arith)
