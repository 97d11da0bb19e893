-- One item of flat lists is written.
use Rattle.std.proofs.Common.{ℕ, zero, suc, ◌+◌, ◌-◌, ◌<◌, ◌≤◌, ◌≡◌, ◌++◌, List, [], ◌∷◌, length, set, nat_lt, refl, ap, sym, ◌∙◌, arith}
use Rattle.std.proofs.Common.{Bool, true, false, if◌then◌else◌, get_or, take, subst, length-append}
use Rattle.std.proofs.lemmas.Bool.{ltb-true, ltb-false}
use Rattle.std.proofs.lemmas.List.{get_or-append_right, get_or_append_left, set-append_left, set-append_right, length-set}
use Rattle.sim_containers.specs.RowArray.{joined, starts_from, IsFlat}
use Rattle.sim_store_share.specs.Rows.{with_item}

pub joined-item : {A : Type 0} (xss : List (List A)) (n : ℕ) (x : A) → joined (with_item xss n x) ≡ set (joined xss) n x
joined-item [] n x = refl
joined-item {A} (xs ∷ xss) n x = go (nat_lt n (length xs)) refl (joined-item xss (n - length xs) x)
  where
    go : (b : Bool) → nat_lt n (length xs) ≡ b → joined (with_item xss (n - length xs) x) ≡ set (joined xss) (n - length xs) x
        → joined (if b then set xs n x ∷ xss else xs ∷ with_item xss (n - length xs) x) ≡ set (xs ++ joined xss) n x
    go true e rest = sym (set-append_left xs (joined xss) n x (ltb-true n (length xs) e))
    go false e rest = ap (λ w. xs ++ w) rest ∙ sym (set-append_right xs (joined xss) (length xs) n x refl (ltb-false n (length xs) e))

starts-item : {A : Type 0} (k : ℕ) (xss : List (List A)) (n : ℕ) (x : A) → starts_from k (with_item xss n x) ≡ starts_from k xss
starts-item k [] n x = refl
starts-item {A} k (xs ∷ xss) n x = go (nat_lt n (length xs)) (starts-item (k + length xs) xss (n - length xs) x)
  where
    go : (b : Bool) → starts_from (k + length xs) (with_item xss (n - length xs) x) ≡ starts_from (k + length xs) xss
        → starts_from k (if b then set xs n x ∷ xss else xs ∷ with_item xss (n - length xs) x) ≡ k ∷ starts_from (k + length xs) xss
    go true rest = ap (λ m. k ∷ starts_from (k + m) xss) (length-set xs n x)
    go false rest = ap (λ w. k ∷ w) rest

pub item_put : {A : Type 0} {xss : List (List A)} {starts : List ℕ} {flat : List A} → IsFlat xss starts flat → (n : ℕ) (x : A)
    → IsFlat (with_item xss n x) starts (set flat n x)
item_put {xss = xss} i n x = record {
  starting = i.starting ∙ sym (starts-item 0 xss n x);
  holding = ap (λ w. set w n x) i.holding ∙ sym (joined-item xss n x);
}

-- ---- an item of one list

pub item-row : {A : Type 0} (xss : List (List A)) (p k n : ℕ) (x : A) → p < length xss → k < length (get_or xss p []) → n ≡ length (joined (take p xss)) + k
    → with_item xss n x ≡ set xss p (set (get_or xss p []) k x)
item-row [] p k n x lt within e = absurd (omega (arith, lt))
item-row {A} (xs ∷ xss) zero k n x lt within e =
    let is : n ≡ k = omega (arith, e) in
    subst (λ (m : ℕ). with_item (xs ∷ xss) m x ≡ set xs k x ∷ xss) (sym is) (go (nat_lt k (length xs)) refl)
  where
    go : (b : Bool) → nat_lt k (length xs) ≡ b → (if nat_lt k (length xs) then set xs k x ∷ xss else xs ∷ with_item xss (k - length xs) x) ≡ set xs k x ∷ xss
    go true q = ap (λ b. if b then set xs k x ∷ xss else xs ∷ with_item xss (k - length xs) x) q
    go false q = let ge = ltb-false k (length xs) q in absurd (omega (arith, ge, within))
item-row {A} (xs ∷ xss) (suc p) k n x lt within e =
    let count = length-append xs (joined (take p xss)) in
    go (nat_lt n (length xs)) refl (omega (arith, e, count))
    (item-row xss p k (n - length xs) x (omega (arith, lt)) within (omega (arith, e, count)))
  where
    go : (b : Bool) → nat_lt n (length xs) ≡ b → length xs ≤ n → with_item xss (n - length xs) x ≡ set xss p (set (get_or xss p []) k x)
        → (if nat_lt n (length xs) then set xs n x ∷ xss else xs ∷ with_item xss (n - length xs) x) ≡ xs ∷ set xss p (set (get_or xss p []) k x)
    go true q far rest = let less = ltb-true n (length xs) q in absurd (omega (arith, less, far))
    go false q far rest = ap (λ b. if b then set xs n x ∷ xss else xs ∷ with_item xss (n - length xs) x) q ∙ ap (λ w. xs ∷ w) rest

-- which is read
pub item-is : {A : Type 0} (xss : List (List A)) (p k n : ℕ) (d : A) → p < length xss → k < length (get_or xss p []) → n ≡ length (joined (take p xss)) + k
    → get_or (joined xss) n d ≡ get_or (get_or xss p []) k d
item-is [] p k n d lt within e = absurd (omega (arith, lt))
item-is (xs ∷ xss) zero k n d lt within e =
    let is : n ≡ k = omega (arith, e) in
    ap (λ m. get_or (xs ++ joined xss) m d) is ∙ get_or_append_left xs (joined xss) d k within
item-is (xs ∷ xss) (suc p) k n d lt within e =
    let count = length-append xs (joined (take p xss)) in
    get_or-append_right xs (joined xss) (length xs) n d refl (omega (arith, e, count))
    ∙ item-is xss p k (n - length xs) d (omega (arith, lt)) within (omega (arith, e, count))

pub length-item : {A : Type 0} (xss : List (List A)) (n : ℕ) (x : A) → length (with_item xss n x) ≡ length xss
length-item [] n x = refl
length-item {A} (xs ∷ xss) n x = go (nat_lt n (length xs)) (length-item xss (n - length xs) x)
  where
    go : (b : Bool) → length (with_item xss (n - length xs) x) ≡ length xss
        → length (if b then set xs n x ∷ xss else xs ∷ with_item xss (n - length xs) x) ≡ suc (length xss)
    go true rest = refl
    go false rest = ap suc rest
