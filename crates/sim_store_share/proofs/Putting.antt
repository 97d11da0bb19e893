-- One process owns other drivers.
use Rattle.std.proofs.Common.{ℕ, zero, suc, ◌+◌, ◌<◌, ◌≤◌, ◌≡◌, ◌++◌, ◌⊎◌, inl, inr, List, [], ◌∷◌, length, get_or, set, take, drop}
use Rattle.std.proofs.Common.{length-append, refl, ap, sym, ◌∙◌, arith}
use Rattle.std.proofs.lemmas.List.{get_or-set_same, length-set, map-append}
use Rattle.sim_logic.specs.declared.logic.Logic.{Logic}
use Rattle.sim_standard.specs.Drivers.{DriverState, next_time}
use Rattle.sim_standard.specs.State.{Owned, all_drivers, driver_at, driver_values, owned_at}
use Rattle.sim_containers.specs.RowArray.{joined}
use Rattle.sim_containers.proofs.Flat.{cut, cut-set, within}
use Rattle.sim_store_share.specs.Shares.{time_at}

same-behind : (r s after : List DriverState) (d : ℕ) → length r ≡ length s → length r ≤ d → driver_at (r ++ after) d ≡ driver_at (s ++ after) d
same-behind [] [] after d l le = refl
same-behind [] (y ∷ s) after d l le = absurd (omega arith)
same-behind (x ∷ r) [] after d l le = absurd (omega arith)
same-behind (x ∷ r) (y ∷ s) after zero l le = absurd (omega arith)
same-behind (x ∷ r) (y ∷ s) after (suc d) l le = same-behind r s after d (omega arith) (omega arith)

-- outside of a part that is replaced nothing changes
same-outside : (before r s after : List DriverState) (d : ℕ) → length r ≡ length s → (d < length before) ⊎ (length before + length r ≤ d)
    → driver_at (before ++ (r ++ after)) d ≡ driver_at (before ++ (s ++ after)) d
same-outside [] r s after d l (inl h) = absurd (omega arith)
same-outside [] r s after d l (inr h) = same-behind r s after d l (omega arith)
same-outside (b ∷ before) r s after zero l h = refl
same-outside (b ∷ before) r s after (suc d) l (inl h) = same-outside before r s after d l (inl (omega arith))
same-outside (b ∷ before) r s after (suc d) l (inr h) = same-outside before r s after d l (inr (omega arith))

pub set-outside : (dss : List (List DriverState)) (p : ℕ) (ds : List DriverState) (d a b : ℕ) → p < length dss → length ds ≡ length (get_or dss p [])
    → a ≡ length (joined (take p dss)) → b ≡ a + length (get_or dss p []) → (d < a) ⊎ (b ≤ d)
    → driver_at (joined (set dss p ds)) d ≡ driver_at (joined dss) d
set-outside dss p ds d a b lt l ea eb side =
    let front = joined (take p dss) in
    let back = joined (drop (suc p) dss) in
    ap (λ w. driver_at w d) (cut-set dss p ds lt) ∙ (same-outside front ds (get_or dss p []) back d l (at side)
    ∙ ap (λ w. driver_at w d) (sym (cut dss p lt)))
  where
    at : (d < a) ⊎ (b ≤ d) → (d < length (joined (take p dss))) ⊎ (length (joined (take p dss)) + length ds ≤ d)
    at (inl h) = inl (omega (arith, h, ea))
    at (inr h) = inr (omega (arith, h, ea, eb, l))

-- ---- the row of one process is another one of the same length

take-before : {A : Type 0} (xs : List A) (p : ℕ) (x : A) → take p (set xs p x) ≡ take p xs
take-before [] p x = refl
take-before (y ∷ xs) zero x = refl
take-before (y ∷ xs) (suc p) x = ap (λ w. y ∷ w) (take-before xs p x)

pub joined-count : {A : Type 0} (xss : List (List A)) (p : ℕ) (row : List A) → length row ≡ length (get_or xss p [])
    → length (joined (set xss p row)) ≡ length (joined xss)
joined-count [] p row l = refl
joined-count (xs ∷ xss) zero row l = omega (arith, l, length-append row (joined xss), length-append xs (joined xss))
joined-count (xs ∷ xss) (suc p) row l =
    omega (arith, joined-count xss p row l, length-append xs (joined (set xss p row)), length-append xs (joined xss))

-- the times of others are as they were
pub times-outside : (dss dss' : List (List DriverState)) (p a b : ℕ) (row : List DriverState) → dss' ≡ set dss p row → p < length dss
    → length row ≡ length (get_or dss p []) → a ≡ length (joined (take p dss')) → b ≡ a + length (get_or dss' p [])
    → (d : ℕ) → (d < a) ⊎ (b ≤ d) → time_at (joined dss) d ≡ time_at (joined dss') d
times-outside dss dss' p a b row e lt l ea eb d side =
    let before : a ≡ length (joined (take p dss)) =
    ea ∙ ap (λ (w : List (List DriverState)). length (joined w)) (ap (take p) e ∙ take-before dss p row) in
    let here : length (get_or dss' p []) ≡ length (get_or dss p []) =
    ap (λ (w : List (List DriverState)). length (get_or w p [])) e ∙ (ap length (get_or-set_same dss p row [] lt) ∙ l) in
    ap (λ (w : DriverState). next_time (w ∷ []))
    (sym (ap (λ (w : List (List DriverState)). driver_at (joined w) d) e ∙ set-outside dss p row d a b lt l before (eb ∙ ap (λ n. a + n) here) side))

-- where the row stands
pub row-within : (dss dss' : List (List DriverState)) (p a b : ℕ) (row : List DriverState) → dss' ≡ set dss p row → p < length dss
    → a ≡ length (joined (take p dss')) → b ≡ a + length (get_or dss' p []) → (a ≤ b) × (b ≤ length (joined dss'))
row-within dss dss' p a b row e lt ea eb =
    let there : p < length dss' = omega (arith, lt, ap length e, length-set dss p row) in
    (omega (arith, eb), omega (arith, ea, eb, within dss' p there))

-- ---- values

abbrev value_of : DriverState → Logic
value_of w = w.value

-- one process owns other drivers with the same values
pub own-values : (own : List Owned) (p : ℕ) (o : Owned) → driver_values o.drivers ≡ driver_values (owned_at own p).drivers
    → driver_values (all_drivers (set own p o)) ≡ driver_values (all_drivers own)
own-values [] p o e = refl
own-values (w ∷ own) zero o e =
    map-append value_of o.drivers (all_drivers own) ∙ (ap (λ vs. vs ++ driver_values (all_drivers own)) e
    ∙ sym (map-append value_of w.drivers (all_drivers own)))
own-values (w ∷ own) (suc p) o e =
    map-append value_of w.drivers (all_drivers (set own p o)) ∙ (ap (λ vs. driver_values w.drivers ++ vs) (own-values own p o e)
    ∙ sym (map-append value_of w.drivers (all_drivers own)))
