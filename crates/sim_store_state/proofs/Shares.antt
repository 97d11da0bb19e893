-- Shares, one after another.
use Rattle.std.proofs.Common.{ℕ, suc, ◌+◌, ◌<◌, ◌≤◌, ◌≡◌, ◌++◌, List, [], ◌∷◌, Some, None, length, get_or, set, map, take, drop}
use Rattle.std.proofs.Common.{refl, ap, sym, ◌∙◌, arith}
use Rattle.std.proofs.Common.{append_assoc, length-append}
use Rattle.std.proofs.lemmas.List.{append-nil, drop_all, get_or-append-add, get_or-drop, get_or_append_left, length-map, length-take}
use Rattle.std.proofs.lemmas.List.{map-append, take_all, take_more}
use Rattle.sim_standard.specs.Drivers.{DriverState, next_time, taken}
use Rattle.sim_standard.specs.State.{Owned, all_drivers, driver_at}
use Rattle.sim_standard.proofs.Names.{no_driver, own_taken}
use Rattle.sim_containers.specs.RowArray.{joined}
use Rattle.sim_containers.specs.Times.{earlier}
use Rattle.sim_containers.proofs.Placed.{joined-append}
use Rattle.sim_containers.proofs.Flat.{cut, joined-map}
use Rattle.std.proofs.Math.Decide.{dec_lt}
use Rattle.sim_store_share.specs.Shares.{all_taken}
use Rattle.sim_store_share.proofs.Held.{no-time}
use Rattle.sim_store_share.specs.Taking.{IsNoneBefore}
use Rattle.sim_store_state.proofs.Times.{next_append}

pub drivers-append : (os ps : List Owned) → all_drivers (os ++ ps) ≡ all_drivers os ++ all_drivers ps
drivers-append [] ps = refl
drivers-append (o ∷ os) ps =
    ap (λ w. o.drivers ++ w) (drivers-append os ps) ∙ sym (append_assoc o.drivers (all_drivers os) (all_drivers ps))

pub drivers-taken : (time : ℕ) (os : List Owned) → all_drivers (all_taken time os) ≡ map (taken time) (all_drivers os)
drivers-taken time [] = refl
drivers-taken time (o ∷ os) =
    ap (λ w. map (taken time) o.drivers ++ w) (drivers-taken time os) ∙ sym (map-append (taken time) o.drivers (all_drivers os))

pub count-taken : (time : ℕ) (os : List Owned) → length (all_drivers (all_taken time os)) ≡ length (all_drivers os)
count-taken time os = ap length (drivers-taken time os) ∙ length-map (all_drivers os) (taken time)

pub joined-taken : (time : ℕ) (shares : List (List Owned)) → joined (map (all_taken time) shares) ≡ map (own_taken time) (joined shares)
joined-taken time shares = joined-map (own_taken time) shares

-- one more share
pub joined-more : {A : Type 0} (xss : List (List A)) (p : ℕ) (d : List A) → p < length xss
    → joined (take (p + 1) xss) ≡ joined (take p xss) ++ get_or xss p d
joined-more xss p d lt =
    ap joined (take_more xss p d lt) ∙ (joined-append (take p xss) (get_or xss p d ∷ []) ∙ ap (λ w. joined (take p xss) ++ w) (append-nil (get_or xss p d)))

pub drivers-more : (shares : List (List Owned)) (p : ℕ) (d : List Owned) → p < length shares
    → all_drivers (joined (take (p + 1) shares)) ≡ all_drivers (joined (take p shares)) ++ all_drivers (get_or shares p d)
drivers-more shares p d lt = ap all_drivers (joined-more shares p d lt) ∙ drivers-append (joined (take p shares)) (get_or shares p d)

-- the drivers before a share, its own, and those after it
pub drivers-cut : (shares : List (List Owned)) (p : ℕ) → p < length shares
    → all_drivers (joined shares) ≡ all_drivers (joined (take p shares)) ++ (all_drivers (get_or shares p []) ++ all_drivers (joined (drop (suc p) shares)))
drivers-cut shares p lt =
    ap all_drivers (cut shares p lt)
    ∙ (drivers-append (joined (take p shares)) (get_or shares p [] ++ joined (drop (suc p) shares))
    ∙ ap (λ w. all_drivers (joined (take p shares)) ++ w) (drivers-append (get_or shares p []) (joined (drop (suc p) shares))))

-- where a driver of a share is among all
pub driver-in : (shares : List (List Owned)) (p d : ℕ) → p < length shares → d < length (all_drivers (get_or shares p []))
    → driver_at (all_drivers (get_or shares p [])) d ≡ driver_at (all_drivers (joined shares)) (length (all_drivers (joined (take p shares))) + d)
driver-in shares p d lt inside =
    let front = all_drivers (joined (take p shares)) in
    let own = all_drivers (get_or shares p []) in
    let back = all_drivers (joined (drop (suc p) shares)) in
    sym (ap (λ w. driver_at w (length front + d)) (drivers-cut shares p lt)
    ∙ (get_or-append-add front (own ++ back) d no_driver ∙ get_or_append_left own back no_driver d inside))

pub drivers-within : (shares : List (List Owned)) (p : ℕ) → p < length shares
    → length (all_drivers (joined (take p shares))) + length (all_drivers (get_or shares p [])) ≤ length (all_drivers (joined shares))
drivers-within shares p lt =
    let front = all_drivers (joined (take p shares)) in
    let own = all_drivers (get_or shares p []) in
    let back = all_drivers (joined (drop (suc p) shares)) in
    let whole = ap length (drivers-cut shares p lt) in
    let one = length-append front (own ++ back) in
    let two = length-append own back in
    omega (arith, whole, one, two)

none-some : (t : ℕ) → None ≡ Some t → ⊥
none-some t e = absurd cc

-- no driver of a share is due earlier
pub none-in-share : (shares : List (List Owned)) (p time : ℕ) → p < length shares → IsNoneBefore time (all_drivers (joined shares))
    → IsNoneBefore time (all_drivers (get_or shares p []))
none-in-share shares p time lt none d t e = elim (dec_lt d (length (all_drivers (get_or shares p [])))) [
  | yes h ↦ none (length (all_drivers (joined (take p shares))) + d) t
      (ap (λ (w : DriverState). next_time (w ∷ [])) (sym (driver-in shares p d lt h)) ∙ e)
  | no h ↦ absurd (none-some t (sym (no-time (all_drivers (get_or shares p [])) d (omega (arith, h))) ∙ e))
]

-- the time of the next cycle, by one more share
pub next-more : (shares : List (List Owned)) (p : ℕ) (d : List Owned) → p < length shares
    → next_time (all_drivers (joined (take (p + 1) shares)))
    ≡ earlier (next_time (all_drivers (joined (take p shares)))) (next_time (all_drivers (get_or shares p d)))
next-more shares p d lt =
    ap next_time (drivers-more shares p d lt) ∙ next_append (all_drivers (joined (take p shares))) (all_drivers (get_or shares p d))

-- a single share
pub alone : {A : Type 0} (xss : List (List A)) (d : List A) → length xss ≡ 1 → joined xss ≡ get_or xss 0 d
alone [] d e = absurd (omega (arith, e))
alone (xs ∷ []) d e = append-nil xs
alone (xs ∷ ys ∷ xss) d e = absurd (omega (arith, e))

pub alone-mapped : {A B : Type 0} (f : A → B) (xs : List A) (d x : A) (y : B) → length xs ≡ 1 → y ≡ f (get_or xs 0 d) → y ∷ [] ≡ map f xs
alone-mapped f [] d x y e is = absurd (omega (arith, e))
alone-mapped f (z ∷ []) d x y e is = ap (λ w. w ∷ []) is
alone-mapped f (z ∷ w ∷ xs) d x y e is = absurd (omega (arith, e))

pub set-alone : {A : Type 0} (xs : List A) (y : A) → length xs ≡ 1 → set xs 0 y ≡ y ∷ []
set-alone [] y e = absurd (omega (arith, e))
set-alone (x ∷ []) y e = refl
set-alone (x ∷ z ∷ xs) y e = absurd (omega (arith, e))

pub all-passed : {A : Type 0} (xs : List A) (i : ℕ) → length xs ≤ i → take i xs ≡ xs
all-passed xs i le = take_all i xs le

pub over-all : {A : Type 0} (f : A → A) (xs : List A) (i : ℕ) → length xs ≤ i → map f (take i xs) ++ drop i xs ≡ map f xs
over-all f xs i le = ap (λ w. map f w ++ drop i xs) (take_all i xs le) ∙ (ap (λ w. map f xs ++ w) (drop_all i xs le) ∙ append-nil (map f xs))

-- the share at the place that a loop over all has reached
pub over-here : {A : Type 0} (f : A → A) (xs ys : List A) (i : ℕ) (d : A) → i < length xs → ys ≡ map f (take i xs) ++ drop i xs
    → get_or ys i d ≡ get_or xs i d
over-here f xs ys i d lt e =
    ap (λ w. get_or w i d) e ∙ (ap (λ m. get_or (map f (take i xs) ++ drop i xs) m d) at
    ∙ (get_or-append-add (map f (take i xs)) (drop i xs) 0 d ∙ (get_or-drop i xs 0 d ∙ ap (λ m. get_or xs m d) (omega arith))))
  where
    at : i ≡ length (map f (take i xs)) + 0
    at = let long = length-map (take i xs) f in let cut = length-take i xs in omega (arith, long, cut, lt)

-- ---- a walk that takes transactions

pub count-front : (time : ℕ) (shares : List (List Owned)) (p : ℕ) → length (all_drivers (joined (map (all_taken time) (take p shares))))
    ≡ length (all_drivers (joined (take p shares)))
count-front time shares p = ap (λ os. length (all_drivers os)) (joined-taken time (take p shares)) ∙ count-taken time (joined (take p shares))

pub drivers-taken-more : (time : ℕ) (shares : List (List Owned)) (p : ℕ) (d : List Owned) → p < length shares
    → all_drivers (joined (map (all_taken time) (take (p + 1) shares)))
    ≡ all_drivers (joined (map (all_taken time) (take p shares))) ++ all_drivers (all_taken time (get_or shares p d))
drivers-taken-more time shares p d lt =
    ap (λ xs. all_drivers (joined (map (all_taken time) xs))) (take_more shares p d lt)
    ∙ (ap (λ xs. all_drivers (joined xs)) (map-append (all_taken time) (take p shares) (get_or shares p d ∷ []))
    ∙ (ap all_drivers (joined-append (map (all_taken time) (take p shares)) (all_taken time (get_or shares p d) ∷ []))
    ∙ (ap (λ w. all_drivers (joined (map (all_taken time) (take p shares)) ++ w)) (append-nil (all_taken time (get_or shares p d)))
    ∙ drivers-append (joined (map (all_taken time) (take p shares))) (all_taken time (get_or shares p d)))))

pub same-first : (shares : List (List Owned)) (p first : ℕ) → p < length shares → first ≡ length (all_drivers (joined (take p shares)))
    → (first + length (all_drivers (get_or shares p [])) ≤ length (all_drivers (joined shares)))
    × ((d : ℕ) → d < length (all_drivers (get_or shares p [])) → driver_at (all_drivers (get_or shares p [])) d ≡ driver_at (all_drivers
    (joined shares)) (first + d))
same-first shares p first lt at =
    let within = drivers-within shares p lt in (
      omega (arith, within, at),
      λ d inside. driver-in shares p d lt inside ∙ ap (λ (m : ℕ). driver_at (all_drivers (joined shares)) (m + d)) (sym at),
    )
