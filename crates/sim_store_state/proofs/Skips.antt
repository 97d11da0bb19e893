-- What is recorded once one more net has the value of its sources.
use Rattle.std.proofs.Common.{ℕ, zero, suc, ◌+◌, ◌<◌, ◌≤◌, ◌≡◌, ◌++◌, ◌||◌, ◌&&◌, Bool, true, false, not, List, [], ◌∷◌, length, get_or, set, drop}
use Rattle.std.proofs.Common.{refl, ap, sym, ◌∙◌, arith, add-one}
use Rattle.sim_logic.specs.declared.logic.Logic.{Logic}
use Rattle.sim_logic.specs.Logic.{is_same}
use Rattle.sim_standard.specs.declared.net_view.NetView.{NetView}
use Rattle.sim_logic.proofs.SameValues.{is_same_from_same}
use Rattle.sim_store_nets.specs.Nets.{changed_to, value_at, views_of}
use Rattle.sim_standard.specs.Records.{changes_from}
use Rattle.sim_standard.specs.Orders.{is_among}
use Rattle.sim_store_state.specs.Sensitive.{is_sensitive, is_resumed_by}
use Rattle.sim_store_nets.proofs.SourceValues.{same-everywhere}

abbrev changes_if : {X : Type 0} → Bool → X → List X → List X
changes_if true change rest = change ∷ rest
changes_if false change rest = rest

if-append : {X : Type 0} (b : Bool) (x : X) (xs ys : List X) → changes_if b x (xs ++ ys) ≡ changes_if b x xs ++ ys
if-append true x xs ys = refl
if-append false x xs ys = refl

first-change : (k : ℕ) (v : NetView) (nets : List NetView) → changes_from k (v ∷ nets) ≡ changes_if v.event (k, v.value) (changes_from (k + 1) nets)
first-change k v nets = go v.event refl
  where
    go : (b : Bool) → v.event ≡ b → changes_from k (v ∷ nets) ≡ changes_if b (k, v.value) (changes_from (k + 1) nets)
    go true e = rw e refl
    go false e = rw e refl

-- ---- one net

-- a net that keeps its value does not change
pub change-none : (k : ℕ) (v b : Logic) (nets : List NetView) → v ≡ b → changes_from k (changed_to v b ∷ nets) ≡ changes_from (k + 1) nets
change-none k v b nets e =
    first-change k (changed_to v b) nets
    ∙ ap (λ w. changes_if (not w) (k, v) (changes_from (k + 1) nets)) (is_same_from_same b v (sym e))

-- in any case it changes once at most
pub change-few : (k : ℕ) (v : NetView) → length (changes_from k (v ∷ [])) ≤ 1
change-few k v = let few = go v.event in omega (arith, few, ap length (first-change k v []))
  where
    go : (b : Bool) → length (changes_if b (k, v.value) (changes_from (k + 1) [])) ≤ 1
    go true = omega arith
    go false = omega arith

-- ---- all nets

-- without an event there is no change
pub changes-none : (k : ℕ) (xs : List Logic) → changes_from k (views_of xs xs) ≡ []
changes-none k [] = refl
changes-none k (x ∷ xs) = change-none k x x (views_of xs xs) refl ∙ changes-none (k + 1) xs

-- a net gets a value where it and the nets after it have no event: its change comes after those of the others
pub changes-set : (k n : ℕ) (xs ys : List Logic) (v : Logic) → length xs ≡ length ys → n < length xs
    → ((m : ℕ) → n ≤ m → value_at xs m ≡ value_at ys m)
    → changes_from k (views_of (set xs n v) ys) ≡ changes_from k (views_of xs ys) ++ changes_from (k + n) (changed_to v (value_at ys n) ∷ [])
changes-set k n [] ys v l lt same = absurd (omega (arith, lt))
changes-set k n (x ∷ xs) [] v l lt same = absurd (omega (arith, l))
changes-set k zero (x ∷ xs) (y ∷ ys) v l lt same =
    let rest : xs ≡ ys = same-everywhere xs ys (omega (arith, l)) (λ m _. same (suc m) (omega arith)) in
    let at : k + 0 ≡ k = omega arith in
    let none : changes_from (k + 1) (views_of xs ys) ≡ [] = ap (λ zs. changes_from (k + 1) (views_of zs ys)) rest ∙ changes-none (k + 1) ys in
    let before : changes_from k (changed_to x y ∷ views_of xs ys) ≡ [] = change-none k x y (views_of xs ys) (same 0 (omega arith)) ∙ none in
    first-change k (changed_to v y) (views_of xs ys)
    ∙ (ap (changes_if (not (is_same y v)) (k, v)) none
    ∙ (sym (first-change k (changed_to v y) []) ∙ (ap (λ i. changes_from i (changed_to v y ∷ [])) (sym at)
    ∙ ap (λ w. w ++ changes_from (k + 0) (changed_to v y ∷ [])) (sym before))))
changes-set k (suc n) (x ∷ xs) (y ∷ ys) v l lt same =
    let at : k + 1 + n ≡ k + suc n = omega arith in
    let b = not (is_same y x) in
    let one = changes_from (k + suc n) (changed_to v (value_at ys n) ∷ []) in
    let rest = changes-set (k + 1) n xs ys v (omega (arith, l)) (omega (arith, lt)) (λ m le. same (suc m) (omega (arith, le)))
    ∙ ap (λ i. changes_from (k + 1) (views_of xs ys) ++ changes_from i (changed_to v (value_at ys n) ∷ [])) at in
    first-change k (changed_to x y) (views_of (set xs n v) ys)
    ∙ (ap (changes_if b (k, x)) rest ∙ (if-append b (k, x) (changes_from (k + 1) (views_of xs ys)) one
    ∙ ap (λ w. w ++ one) (sym (first-change k (changed_to x y) (views_of xs ys)))))

-- ---- processes sensitive to the recorded nets

list-at : (xs : List (List ℕ)) (k : ℕ) → k < length xs → drop k xs ≡ get_or xs k [] ∷ drop (suc k) xs
list-at [] k lt = absurd (omega arith)
list-at (x ∷ xs) zero lt = refl
list-at (x ∷ xs) (suc k) lt = list-at xs k (omega arith)

pub resumed-by-changes : (nets : List NetView) (sensitive : List (List ℕ)) (k p : ℕ) → k + length nets ≤ length sensitive
    → is_resumed_by sensitive (changes_from k nets) p ≡ is_sensitive nets (drop k sensitive) p
resumed-by-changes [] sensitive k p le = refl
resumed-by-changes (v ∷ nets) sensitive k p le =
    let rest = resumed-by-changes nets sensitive (k + 1) p (omega (arith, le)) ∙ ap (λ j. is_sensitive nets (drop j sensitive) p) (add-one k) in
    ap (λ cs. is_resumed_by sensitive cs p) (first-change k v nets)
    ∙ (go v.event rest ∙ ap (λ ss. is_sensitive (v ∷ nets) ss p) (sym (list-at sensitive k (omega (arith, le)))))
  where
    go : (b : Bool) → is_resumed_by sensitive (changes_from (k + 1) nets) p ≡ is_sensitive nets (drop (suc k) sensitive) p
        → is_resumed_by sensitive (changes_if b (k, v.value) (changes_from (k + 1) nets)) p
        ≡ ((b && is_among (get_or sensitive k []) p) || is_sensitive nets (drop (suc k) sensitive) p)
    go true rest = ap (λ b. is_among (get_or sensitive k []) p || b) rest
    go false rest = rest
