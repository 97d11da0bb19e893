-- Each step keeps the views lawful.
use Rattle.std.proofs.Common.{◌≡◌, ℕ, zero, suc, ◌+◌, ◌/◌, ◌<◌, ◌≤◌, ◌≢◌, List, [], ◌∷◌, ◌++◌, length, set, min, cond, sym, refl, ap, ◌∙◌, ⊎_elim, arith}
use Rattle.std.proofs.Common.{length-append, eq-eqb, ne_eqb, lt-ltb, le-ltb, lt_of_not-le}
use mathlib.Core.Logic.{dite}
use native.Mathlib.Decide.{dec_le, ℕ_discrete}
use mathlib.Core.Option.{some, some-injective, some-ne-none}
use lib.ListN.{get_elem?}
use Rattle.atomic_table.proofs.Lists.{at_set, at_snoc}
use Rattle.sim_run_claims.specs.declared.view.SeatView.{SeatView}
use Rattle.sim_run_claims.specs.Lawful.{total, one_if_same, occurrences, one_if_below, AreThoseBelow, drawn_in, overdraws_in, IsLawful}
use Rattle.sim_run_claims.specs.Views.{with_number, overdrawn, kept_half, handed_half, joined, spent_view}
use Rattle.sim_run_claims.proofs.Sums.{total-append, total-set, term_le, terms_le}

one_more_below : (x n : ℕ) → one_if_below x (n + 1) ≡ one_if_below x n + one_if_same x n
one_more_below x n = dite (ℕ_discrete n x)
    (λ e. let a : one_if_same x n ≡ 1 = ap (λ b. cond b 1 0) (eq-eqb n x e) in
    let b : one_if_below x n ≡ 0 = ap (λ b. cond b 1 0) (le-ltb x n (omega arith)) in
    let c : one_if_below x (n + 1) ≡ 1 = ap (λ b. cond b 1 0) (lt-ltb x (n + 1) (omega arith)) in omega arith)
    (λ ne. let a : one_if_same x n ≡ 0 = ap (λ b. cond b 1 0) (ne_eqb n x ne) in
    dite (dec_le n x)
    (λ le. let b : one_if_below x n ≡ 0 = ap (λ b. cond b 1 0) (le-ltb x n le) in
    let c : one_if_below x (n + 1) ≡ 0 = ap (λ b. cond b 1 0) (le-ltb x (n + 1) (omega arith)) in omega arith)
    (λ gt. let lt : x < n = lt_of_not-le gt in let b : one_if_below x n ≡ 1 = ap (λ b. cond b 1 0) (lt-ltb x n lt) in
    let c : one_if_below x (n + 1) ≡ 1 = ap (λ b. cond b 1 0) (lt-ltb x (n + 1) (omega arith)) in omega arith))

module _ (n word : ℕ) (views : List SeatView) (l : IsLawful n word views) where
  none_over : word < n → overdraws_in views ≡ 0
  none_over h = dite (dec_le 1 (overdraws_in views)) (λ some. absurd (omega (arith, l.counted, l.all_drawn some))) (λ none. omega arith)

  all_out : n ≤ word → drawn_in views ≡ n
  all_out h = dite (dec_le 1 (overdraws_in views)) (λ some. l.all_drawn some) (λ none. omega (arith, l.counted, l.within))

  pub number_stays_lawful : (id : ℕ) (v : SeatView) → get_elem? views id ≡ some v → 0 < v.allowance → word < n
      → IsLawful n (word + 1) (set views id (with_number v word))
  number_stays_lawful id v at may h =
      let w : SeatView = with_number v word in
      let none = none_over h in
      let was : drawn_in views ≡ word = omega (arith, l.counted) in
      let longer = length-append v.drawn (word ∷ []) in
      let a = total-set (λ (u : SeatView). length u.drawn) views id v w at in
      let b = total-set (λ (u : SeatView). u.overdraws) views id v w at in
      let c = total-set (λ (u : SeatView). u.allowance) views id v w at in
      let now : drawn_in (set views id w) ≡ word + 1 = omega arith in
      record {
        counted = omega arith;
        allowed = omega (arith, l.allowed);
        each_once = λ x.
            let t = total-set (λ (u : SeatView). occurrences x u.drawn) views id v w at in
            let before : total (λ (u : SeatView). occurrences x u.drawn) views ≡ one_if_below x word = l.each_once x ∙ ap (one_if_below x) was in
            let after : total (λ (u : SeatView). occurrences x u.drawn) (set views id w) ≡ one_if_below x (word + 1) =
            omega (arith, total-append (one_if_same x) v.drawn (word ∷ []), one_more_below x word) in
            after ∙ ap (one_if_below x) (sym now);
        within = omega arith;
        all_drawn = λ some. absurd (omega arith);
        idle = λ j u e no_more no_over. ⊎_elim
            (λ (t : (j ≡ id) × (w ≡ u)). let same = ap (λ (x : SeatView). x.allowance) t.1 in absurd (omega arith))
            (λ (t : (j ≢ id) × (get_elem? views j ≡ some u)). l.idle j u t.1 no_more no_over)
            (at_set views id j w u e);
      }

  pub overdraw_stays_lawful : (id : ℕ) (v : SeatView) → get_elem? views id ≡ some v → 0 < v.allowance → n ≤ word
      → IsLawful n (word + 1) (set views id (overdrawn v))
  overdraw_stays_lawful id v at may h =
      let w : SeatView = overdrawn v in
      let all = all_out h in
      let a = total-set (λ (u : SeatView). length u.drawn) views id v w at in
      let b = total-set (λ (u : SeatView). u.overdraws) views id v w at in
      let c = total-set (λ (u : SeatView). u.allowance) views id v w at in
      let now : drawn_in (set views id w) ≡ drawn_in views = omega arith in
      record {
        counted = omega (arith, l.counted);
        allowed = omega (arith, l.allowed);
        each_once = λ x.
            let t = total-set (λ (u : SeatView). occurrences x u.drawn) views id v w at in
            let after : total (λ (u : SeatView). occurrences x u.drawn) (set views id w) ≡ one_if_below x (drawn_in views) =
            omega (arith, l.each_once x) in
            after ∙ ap (one_if_below x) (sym now);
        within = omega (arith, l.within);
        all_drawn = λ some. now ∙ all;
        idle = λ j u e no_more no_over. ⊎_elim
            (λ (t : (j ≡ id) × (w ≡ u)). let same = ap (λ (x : SeatView). x.overdraws) t.1 in absurd (omega arith))
            (λ (t : (j ≢ id) × (get_elem? views j ≡ some u)). l.idle j u t.1 no_more no_over)
            (at_set views id j w u e);
      }

  pub split_stays_lawful : (id : ℕ) (v : SeatView) → get_elem? views id ≡ some v → IsLawful n word (set views id (kept_half v) ++ handed_half v ∷ [])
  split_stays_lawful id v at =
      let w : SeatView = kept_half v in
      let half : v.allowance / 2 ≤ v.allowance = omega arith in
      let sum = λ (g : SeatView → ℕ). total-append g (set views id w) (handed_half v ∷ []) in
      let a = total-set (λ (u : SeatView). length u.drawn) views id v w at in
      let b = total-set (λ (u : SeatView). u.overdraws) views id v w at in
      let c = total-set (λ (u : SeatView). u.allowance) views id v w at in
      let a' = sum (λ (u : SeatView). length u.drawn) in
      let b' = sum (λ (u : SeatView). u.overdraws) in
      let c' = sum (λ (u : SeatView). u.allowance) in
      let now : drawn_in (set views id w ++ handed_half v ∷ []) ≡ drawn_in views = omega arith in
      let over_now : overdraws_in (set views id w ++ handed_half v ∷ []) ≡ overdraws_in views = omega arith in
      record {
        counted = omega (arith, l.counted);
        allowed = omega (arith, l.allowed);
        each_once = λ x.
            let t = total-set (λ (u : SeatView). occurrences x u.drawn) views id v w at in
            let after : total (λ (u : SeatView). occurrences x u.drawn) (set views id w ++ handed_half v ∷ []) ≡ one_if_below x (drawn_in views) =
            omega (arith, l.each_once x, sum (λ (u : SeatView). occurrences x u.drawn)) in
            after ∙ ap (one_if_below x) (sym now);
        within = omega (arith, l.within);
        all_drawn = λ some. now ∙ l.all_drawn (omega arith);
        idle = λ j u e no_more no_over. ⊎_elim
            (λ (old : get_elem? (set views id w) j ≡ some u). ⊎_elim
            (λ (t : (j ≡ id) × (w ≡ u)).
            let same = ap (λ (x : SeatView). x.allowance) t.1 in let same' = ap (λ (x : SeatView). x.overdraws) t.1 in
            ap (λ (x : SeatView). x.drawn) (sym t.1) ∙ l.idle id v at (omega arith) (omega arith))
            (λ (t : (j ≢ id) × (get_elem? views j ≡ some u)). l.idle j u t.1 no_more no_over)
            (at_set views id j w u old))
            (λ (new : handed_half v ≡ u). ap (λ (x : SeatView). x.drawn) (sym new)) (at_snoc (set views id w) (handed_half v) u j e);
      }

  pub join_stays_lawful : (id other : ℕ) (v w : SeatView) → get_elem? views id ≡ some v → other ≢ id → get_elem? (set views id (joined v w)) other ≡ some w
      → IsLawful n word (set (set views id (joined v w)) other spent_view)
  join_stays_lawful id other v w at apart there =
      let m : SeatView = joined v w in
      let vs = set views id m in
      let longer = length-append v.drawn w.drawn in
      let their : get_elem? views other ≡ some w = ⊎_elim
      (λ (t : (other ≡ id) × (m ≡ w)). absurd (apart t.0))
      (λ (t : (other ≢ id) × (get_elem? views other ≡ some w)). t.1)
      (at_set views id other m w there) in
      let a = total-set (λ (u : SeatView). length u.drawn) views id v m at in
      let b = total-set (λ (u : SeatView). u.overdraws) views id v m at in
      let c = total-set (λ (u : SeatView). u.allowance) views id v m at in
      let a' = total-set (λ (u : SeatView). length u.drawn) vs other w spent_view there in
      let b' = total-set (λ (u : SeatView). u.overdraws) vs other w spent_view there in
      let c' = total-set (λ (u : SeatView). u.allowance) vs other w spent_view there in
      let now : drawn_in (set vs other spent_view) ≡ drawn_in views = omega arith in
      let over_now : overdraws_in (set vs other spent_view) ≡ overdraws_in views = omega arith in
      record {
        counted = omega (arith, l.counted);
        allowed = omega (arith, l.allowed);
        each_once = λ x.
            let t = total-set (λ (u : SeatView). occurrences x u.drawn) views id v m at in
            let t' = total-set (λ (u : SeatView). occurrences x u.drawn) vs other w spent_view there in
            let after : total (λ (u : SeatView). occurrences x u.drawn) (set vs other spent_view) ≡ one_if_below x (drawn_in views) =
            omega (arith, l.each_once x, total-append (one_if_same x) v.drawn w.drawn) in
            after ∙ ap (one_if_below x) (sym now);
        within = omega (arith, l.within);
        all_drawn = λ some. now ∙ l.all_drawn (omega arith);
        idle = λ j u e no_more no_over. ⊎_elim
            (λ (t : (j ≡ other) × (spent_view ≡ u)). ap (λ (x : SeatView). x.drawn) (sym t.1))
            (λ (t : (j ≢ other) × (get_elem? vs j ≡ some u)). ⊎_elim
            (λ (s : (j ≡ id) × (m ≡ u)).
            let same = ap (λ (x : SeatView). x.allowance) s.1 in
            let same' = ap (λ (x : SeatView). x.overdraws) s.1 in
            let mine : v.drawn ≡ [] = l.idle id v at (omega arith) (omega arith) in
            let yours : w.drawn ≡ [] = l.idle other w their (omega arith) (omega arith) in
            ap (λ (x : SeatView). x.drawn) (sym s.1) ∙ (ap (λ (xs : List ℕ). xs ++ w.drawn) mine ∙ yours))
            (λ (s : (j ≢ id) × (get_elem? views j ≡ some u)). l.idle j u s.1 no_more no_over)
            (at_set views id j m u t.1))
            (at_set vs other j spent_view u e);
      }

  pub allowance_le : (id : ℕ) (v : SeatView) → get_elem? views id ≡ some v → v.allowance ≤ 64
  allowance_le id v at = omega (arith, term_le (λ (u : SeatView). u.allowance) views id v at, l.allowed)

  pub count_is : min word n ≡ drawn_in views
  count_is = dite (dec_le n word)
      (λ h. let all = all_out h in omega (arith, l.counted))
      (λ no. let lt : word < n = lt_of_not-le no in let none = none_over lt in omega (arith, l.counted))

  none_of : (g : SeatView → ℕ) (vs : List SeatView) → ((j : ℕ) (u : SeatView) → get_elem? vs j ≡ some u → g u ≡ 0) → total g vs ≡ 0
  none_of g [] h = refl
  none_of g (x ∷ xs) h = omega (arith, h zero x refl, none_of g xs (λ j u e. h (suc j) u e))

  -- a seat with the whole allowance, used or not, has drawn all
  alone : (g : SeatView → ℕ) (vs : List SeatView) (id : ℕ) (v : SeatView) → get_elem? vs id ≡ some v
      → ((j : ℕ) (u : SeatView) → j ≢ id → get_elem? vs j ≡ some u → g u ≡ 0)
      → total g vs ≡ g v
  alone g [] id v at h = absurd (some-ne-none v (sym at))
  alone g (x ∷ xs) zero v at h = omega (arith, ap g (some-injective x v at), none_of g xs (λ j u e. h (suc j) u (λ z. omega arith) e))
  alone g (x ∷ xs) (suc id) v at h = omega (arith, h zero x (λ z. omega arith) refl, alone g xs id v at (λ j u ne e. h (suc j) u (λ z. ne (omega arith)) e))

  -- then no other seat has drawn anything
  others : (id : ℕ) (v : SeatView) → get_elem? views id ≡ some v → v.allowance + v.overdraws ≡ 64
      → (j : ℕ) (u : SeatView) → j ≢ id → get_elem? views j ≡ some u → u.drawn ≡ []
  others id v at full j u ne e =
      let p = terms_le (λ (u : SeatView). u.allowance) views id j v u ne at e in
      let q = terms_le (λ (u : SeatView). u.overdraws) views id j v u ne at e in
      l.idle j u e (omega (arith, l.allowed)) (omega (arith, l.allowed))

  pub whole : (id : ℕ) (v : SeatView) → get_elem? views id ≡ some v → v.allowance + v.overdraws ≡ 64 → AreThoseBelow (min word n) v.drawn
  whole id v at full x =
      let mine : total (λ (u : SeatView). occurrences x u.drawn) views ≡ occurrences x v.drawn = alone (λ (u : SeatView). occurrences x u.drawn) views id v at
      (λ j u ne e. ap (occurrences x) (others id v at full j u ne e)) in
      sym mine ∙ (l.each_once x ∙ ap (one_if_below x) (sym count_is))

  pub whole_length : (id : ℕ) (v : SeatView) → get_elem? views id ≡ some v → v.allowance + v.overdraws ≡ 64 → min word n ≡ length v.drawn
  whole_length id v at full = count_is ∙ alone (λ (u : SeatView). length u.drawn) views id v at
      (λ j u ne e. ap (λ (xs : List ℕ). length xs) (others id v at full j u ne e))

  pub all_were : (id : ℕ) (v : SeatView) → get_elem? views id ≡ some v → 0 < v.overdraws → min word n ≡ n
  all_were id v at has = count_is ∙ l.all_drawn (omega (arith, term_le (λ (u : SeatView). u.overdraws) views id v at))
