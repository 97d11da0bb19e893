-- Where comments end.
use Rattle.std.proofs.Common.{◌≡◌, ℕ, zero, suc, ◌+◌, ◌≤◌, Bool, true, false, ◌&&◌, ◌==◌, not, [], ◌∷◌, ◌++◌, length, take, Option, Some, None, refl, ap, arith}
use Rattle.std.specs.Prelude.{option_map}
use Rattle.std.specs.List.{list_all}
use Rattle.sim_text_tokens.specs.Pieces.{Text, is_line_end, is_closed_at_end}
use Rattle.sim_text_tokens.specs.Scan.{line_len, closed_len}
use Rattle.sim_text_tokens.proofs.Tests.{by_cases, and_both}

-- a length, after k more bytes
abbrev pub further : ℕ → Option ℕ → Option ℕ
further k None = None
further k (Some n) = Some (k + n)

further_map : (k : ℕ) (o : Option ℕ) → further k (option_map suc o) ≡ further (suc k) o
further_map k None = refl
further_map k (Some n) = ap Some (omega arith)

-- no `*/` is at the front
pub closed_len_step : (k a : ℕ) (after : Text) → ((b : ℕ) (bs : Text) → after ≡ b ∷ bs → (a == 42 && b == 47) ≡ false)
    → further k (closed_len (a ∷ after)) ≡ further (suc k) (closed_len after)
closed_len_step k a [] h = refl
closed_len_step k a (b ∷ bs) h = rw (h b bs refl) (further_map k (closed_len (b ∷ bs)))

pub line_fits : (bs : Text) → list_all (λ x. not (is_line_end x)) (take (line_len bs) bs) ≡ true
line_fits [] = refl
line_fits (b ∷ bs) = by_cases (is_line_end b)
    (λ t. let n : line_len (b ∷ bs) ≡ 0 = rw t refl in rw n refl)
    (λ t. let n : line_len (b ∷ bs) ≡ suc (line_len bs) = rw t refl in rw (n, t) (line_fits bs))

pub line_inside : (bs : Text) → line_len bs ≤ length bs
line_inside [] = omega arith
line_inside (b ∷ bs) = by_cases (is_line_end b)
    (λ t. let n : line_len (b ∷ bs) ≡ 0 = rw t refl in omega arith)
    (λ t. let n : line_len (b ∷ bs) ≡ suc (line_len bs) = rw t refl in let ih = line_inside bs in omega arith)

-- a front without a line end is no longer than `line_len`
pub line_most : (front beyond : Text) → list_all (λ x. not (is_line_end x)) front ≡ true → length front ≤ line_len (front ++ beyond)
line_most [] beyond h = omega arith
line_most (b ∷ bs) beyond h = by_cases (is_line_end b)
    (λ t. let f : (not (is_line_end b) && list_all (λ x. not (is_line_end x)) bs) ≡ false = rw t refl in absurd cc)
    (λ t. let n : line_len (b ∷ (bs ++ beyond)) ≡ suc (line_len (bs ++ beyond)) = rw t refl in
    let w = and_both (not (is_line_end b)) _ h in
    let ih = line_most bs beyond w.1 in omega arith)

map_some : (o : Option ℕ) (n : ℕ) → option_map suc o ≡ Some n → (m : ℕ) × (o ≡ Some m) × (n ≡ suc m)
map_some None n h = absurd cc
map_some (Some m) n h = (m, refl, cc)

map_none : (o : Option ℕ) → option_map suc o ≡ None → o ≡ None
map_none None h = refl
map_none (Some m) h = absurd cc

not_both : (b c : Bool) → (not b && c) ≡ true → (b ≡ false) × (c ≡ true)
not_both true c h = absurd cc
not_both false c h = (refl, h)

-- a front closed at its end is where the first `*/` ends, whatever follows
pub closed_exact : (front beyond : Text) → is_closed_at_end front ≡ true → closed_len (front ++ beyond) ≡ Some (length front)
closed_exact [] beyond h = absurd cc
closed_exact (a ∷ []) beyond h = absurd cc
closed_exact (a ∷ b ∷ []) beyond h = rw h refl
closed_exact (a ∷ b ∷ c ∷ bs) beyond h =
    let w = not_both (a == 42 && b == 47) _ h in
    rw (w.0, closed_exact (b ∷ c ∷ bs) beyond w.1) refl

closed_step : (a b : ℕ) (bs : Text) → (a == 42 && b == 47) ≡ false → is_closed_at_end (b ∷ bs) ≡ true → is_closed_at_end (a ∷ b ∷ bs) ≡ true
closed_step a b [] f h = absurd cc
closed_step a b (c ∷ bs) f h = rw (f, h) refl

-- the bytes up to the first `*/` close at their end
pub closed_fits : (bs : Text) (n : ℕ) → closed_len bs ≡ Some n → (is_closed_at_end (take n bs) ≡ true) × (n ≤ length bs)
closed_fits [] n h = absurd cc
closed_fits (a ∷ []) n h = absurd cc
closed_fits (a ∷ b ∷ bs) n h = by_cases (a == 42 && b == 47)
    (λ t. let e : Some 2 ≡ Some n = rw t at h in
    let two : n ≡ 2 = cc in
    rw two (t, omega arith))
    (λ t. let e : option_map suc (closed_len (b ∷ bs)) ≡ Some n = rw t at h in
    let w = map_some (closed_len (b ∷ bs)) n e in
    let ih = closed_fits (b ∷ bs) w.0 w.1 in
    rw w.2 (closed_front a b bs w.0 t ih.0, omega arith))
  where
    closed_front : (a b : ℕ) (bs : Text) (m : ℕ) → (a == 42 && b == 47) ≡ false → is_closed_at_end (take m (b ∷ bs)) ≡ true
        → is_closed_at_end (a ∷ take m (b ∷ bs)) ≡ true
    closed_front a b bs zero f h = absurd cc
    closed_front a b bs (suc m) f h = closed_step a b (take m bs) f h
