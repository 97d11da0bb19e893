-- A row array in two: the lists that are left, and those that are cut off.
use Rattle.std.proofs.Common.{ℕ, zero, suc, ◌+◌, ◌-◌, ◌≤◌, ◌≡◌, ◌++◌, List, [], ◌∷◌, length, get_or, take, drop, map}
use Rattle.std.proofs.Common.{add-one, refl, ap, sym, subst, ◌∙◌, arith, length-append}
use Rattle.std.proofs.lemmas.List.{take-append-drop, take_at, drop_at}
use Rattle.sim_containers.specs.RowArray.{joined, starts_from, IsFlat}
use Rattle.sim_containers.proofs.Flat.{start-read}
use Rattle.sim_containers.proofs.Placed.{joined-append}

pub joined-cut : {A : Type 0} (xss : List (List A)) (p : ℕ) → joined xss ≡ joined (take p xss) ++ joined (drop p xss)
joined-cut xss p = ap joined (sym (take-append-drop p xss)) ∙ joined-append (take p xss) (drop p xss)

starts-take : {A : Type 0} (n : ℕ) (xss : List (List A)) (p : ℕ) → p ≤ length xss → take (suc p) (starts_from n xss) ≡ starts_from n (take p xss)
starts-take n [] zero h = refl
starts-take n [] (suc p) h = absurd (omega arith)
starts-take n (xs ∷ xss) zero h = refl
starts-take n (xs ∷ xss) (suc p) h = ap (λ w. n ∷ w) (starts-take (n + length xs) xss p (omega arith))

-- the starts from an index on, counted from there
starts-drop : {A : Type 0} (n m : ℕ) (xss : List (List A)) (p : ℕ) → p ≤ length xss → m ≡ n + length (joined (take p xss))
    → drop p (starts_from n xss) ≡ starts_from m (drop p xss)
starts-drop n m xss zero h e = let k : n ≡ m = omega (arith, e) in ap (λ w. starts_from w xss) k
starts-drop n m [] (suc p) h e = absurd (omega arith)
starts-drop n m (xs ∷ xss) (suc p) h e =
    starts-drop (n + length xs) m xss p (omega arith) (omega (arith, e, length-append xs (joined (take p xss))))

starts-less : {A : Type 0} (n m k : ℕ) (xss : List (List A)) → k ≡ n + m → map (λ (s : ℕ). s - n) (starts_from k xss) ≡ starts_from m xss
starts-less n m k [] e = let d : k - n ≡ m = omega arith in ap (λ s. s ∷ []) d
starts-less n m k (xs ∷ xss) e =
    let d : k - n ≡ m = omega arith in
    ap (λ s. s ∷ map (λ (s : ℕ). s - n) (starts_from (k + length xs) xss)) d
    ∙ ap (λ w. m ∷ w) (starts-less n (m + length xs) (k + length xs) xss (omega arith))

pub split-front : {A : Type 0} {xss yss : List (List A)} {starts : List ℕ} {flat : List A} → IsFlat xss starts flat → xss ≡ yss
    → (p a : ℕ) (starts₁ starts' : List ℕ) (flat' : List A) → p ≤ length yss → starts₁ ≡ starts → a ≡ get_or starts₁ p 0
    → starts' ≡ take (p + 1) starts → flat' ≡ take a flat → IsFlat (take p yss) starts' flat'
split-front {yss = yss} {starts = starts} {flat = flat} i e p a starts₁ starts' flat' h es ea e' ef =
    let j = subst (λ w. IsFlat w starts flat) e i in
    let n = start-read i e p a starts₁ h es ea in
    record {
      starting = e' ∙ (ap (λ m. take m starts) (add-one p) ∙ (ap (take (suc p)) j.starting ∙ starts-take 0 yss p h));
      holding = ef ∙ (ap (take a) (j.holding ∙ joined-cut yss p) ∙ take_at (joined (take p yss)) (joined (drop p yss)) a (sym n));
    }

pub split-back : {A : Type 0} {xss yss : List (List A)} {starts : List ℕ} {flat : List A} → IsFlat xss starts flat → xss ≡ yss
    → (p a : ℕ) (starts₁ starts₂ starts' : List ℕ) (flat' : List A) → p ≤ length yss → starts₁ ≡ starts → starts₂ ≡ starts → a ≡ get_or starts₁ p 0
    → starts' ≡ map (λ (s : ℕ). s - get_or starts₂ p 0) (drop p starts₂) → flat' ≡ drop a flat → IsFlat (drop p yss) starts' flat'
split-back {yss = yss} {starts = starts} {flat = flat} i e p a starts₁ starts₂ starts' flat' h e₁ e₂ ea e' ef =
    let j = subst (λ w. IsFlat w starts flat) e i in
    let n = start-read i e p a starts₁ h e₁ ea in
    let m : get_or starts₂ p 0 ≡ a = ap (λ w. get_or w p 0) (e₂ ∙ sym e₁) ∙ sym ea in
    let back : drop p starts₂ ≡ starts_from a (drop p yss) =
    ap (drop p) (e₂ ∙ j.starting) ∙ starts-drop 0 a yss p h (omega (arith, n)) in
    record {
      starting = e' ∙ (ap (λ b. map (λ (s : ℕ). s - b) (drop p starts₂)) m ∙ (ap (map (λ (s : ℕ). s - a)) back
          ∙ starts-less a 0 a (drop p yss) (omega arith)));
      holding = ef ∙ (ap (drop a) (j.holding ∙ joined-cut yss p) ∙ drop_at (joined (take p yss)) (joined (drop p yss)) a (sym n));
    }
