-- Lists built position by position: one that is changed at a position, and one whose items are all the same.
use Rattle.std.proofs.Common.{◌≡◌, ℕ, zero, suc, ◌+◌, ◌==◌, ◌<◌, List, ◌∷◌, Bool, true, false, cond, map, get_or, set, replicate}
use Rattle.std.proofs.Common.{refl, ap, sym, ◌∙◌, arith, eqb-true}
use Rattle.std.proofs.lemmas.List.{ext_get_or, get_or-set_same, get_or-set_other, length-set}
use Rattle.std.proofs.lemmas.List.FromFn.{get_or-map-range_with_len, length-map-range_with_len}
use Rattle.std.specs.List.{range_with_len}
use Rattle.std.proofs.lemmas.Bool.Decides.{nat_tests}
use Rattle.sim_text_tokens.proofs.Tests.{by_cases}

pub all_same : {X : Type 0} (f : ℕ → X) (x : X) → ((n : ℕ) → f n ≡ x) → (from n : ℕ) → map f (range_with_len from n) ≡ replicate n x
all_same f x same from zero = refl
all_same {X} f x same from (suc n) =
    ap (λ (y : X). y ∷ map f (range_with_len (from + 1) n)) (same from)
    ∙ ap (λ (ys : List X). x ∷ ys) (all_same f x same (from + 1) n)

module _ {X : Type 0} (f g : ℕ → X) (n : ℕ) (d : X) where
  abbrev fs : List X
  fs = map f (range_with_len 0 n)

  abbrev gs : List X
  gs = map g (range_with_len 0 n)

  f_at : (q : ℕ) → q < n → get_or fs q d ≡ f q
  f_at q lt = get_or-map-range_with_len f 0 n q q d lt (omega arith)

  g_at : (q : ℕ) → q < n → get_or gs q d ≡ g q
  g_at q lt = get_or-map-range_with_len g 0 n q q d lt (omega arith)

  pub alike : ((q : ℕ) → q < n → f q ≡ g q) → fs ≡ gs
  alike same =
      let a = length-map-range_with_len f 0 n in
      let b = length-map-range_with_len g 0 n in
      ext_get_or d fs gs (omega arith) (λ q lt. let below : q < n = omega arith in f_at q below ∙ (same q below ∙ sym (g_at q below)))

module _ {X : Type 0} (f g : ℕ → X) (n p : ℕ) (y d : X) (changed : (q : ℕ) → g q ≡ cond (p == q) y (f q)) where
  there : (q : ℕ) → q < n → (p == q) ≡ true → get_or (set (fs f g n d) p y) q d ≡ g q
  there q lt t =
      let same : p ≡ q = eqb-true p q t in
      let a = length-map-range_with_len f 0 n in
      let put : get_or (set (fs f g n d) p y) p d ≡ y = get_or-set_same (fs f g n d) p y d (omega arith) in
      ap (λ (m : ℕ). get_or (set (fs f g n d) p y) m d) (sym same) ∙ (put ∙ sym (changed q ∙ ap (λ (b : Bool). cond b y (f q)) t))

  elsewhere : (q : ℕ) → q < n → (p == q) ≡ false → get_or (set (fs f g n d) p y) q d ≡ g q
  elsewhere q lt t =
      get_or-set_other (fs f g n d) p q y d (λ e. grind (arith, nat_tests))
      ∙ (f_at f g n d q lt ∙ sym (changed q ∙ ap (λ (b : Bool). cond b y (f q)) t))

  -- one item is changed
  pub put_at : set (map f (range_with_len 0 n)) p y ≡ map g (range_with_len 0 n)
  put_at =
      let a = length-map-range_with_len f 0 n in
      let b = length-map-range_with_len g 0 n in
      let c = length-set (fs f g n d) p y in
      ext_get_or d (set (fs f g n d) p y) (gs f g n d) (omega arith)
      (λ q lt. let below : q < n = omega arith in by_cases (p == q) (there q below) (elsewhere q below) ∙ sym (g_at f g n d q below))
