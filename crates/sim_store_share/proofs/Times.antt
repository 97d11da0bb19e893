-- Pending times: the least of them.
use Rattle.std.proofs.Common.{◌≡◌, ℕ, suc, ◌≤◌, min, List, [], ◌∷◌, ◌++◌, map, flat_map, Some, None, refl, ap, sym, ◌∙◌, fold, arith}
use Rattle.std.specs.List.{reduce}
use Rattle.std.proofs.lemmas.List.Concat.{flat_map-append}
use Rattle.std.proofs.lemmas.List.Sums.{fold-append}
use Rattle.sim_standard.specs.Drivers.{Transaction, DriverState, next_time}
use Rattle.sim_wave.specs.Rising.{RisesFrom, next_of}
use Rattle.sim_containers.specs.Times.{earlier}

abbrev pub times : List Transaction → List ℕ
times xs = map (λ (x : Transaction). x.0) xs

-- ---- the least of a list

append_none : {X : Type 0} (xs : List X) → xs ++ [] ≡ xs
append_none [] = refl
append_none (x ∷ xs) = ap (λ l. x ∷ l) (append_none xs)

fold_min : (m n : ℕ) (xs : List ℕ) → fold min (min m n) xs ≡ min m (fold min n xs)
fold_min m n [] = refl
fold_min m n (x ∷ xs) = ap (λ k. fold min k xs) (omega arith) ∙ fold_min m (min n x) xs

reduce_append : (xs ys : List ℕ) → reduce min (xs ++ ys) ≡ earlier (reduce min xs) (reduce min ys)
reduce_append [] ys = refl
reduce_append (x ∷ xs) [] = ap (λ (l : List ℕ). reduce min l) (append_none (x ∷ xs))
reduce_append (x ∷ xs) (y ∷ ys) = ap (λ k. Some k) (fold-append min x xs (y ∷ ys) ∙ fold_min (fold min x xs) y ys)

rises_earlier : (low high : ℕ) (xs : List Transaction) → low ≤ high → RisesFrom high xs → RisesFrom low xs
rises_earlier low high [] le r = tt
rises_earlier low high (x ∷ xs) le r = (omega arith, r.1)

fold_low : (m : ℕ) (xs : List Transaction) → RisesFrom m xs → fold min m (times xs) ≡ m
fold_low m [] r = refl
fold_low m (x ∷ xs) r =
    let same : min m x.0 ≡ m = omega arith in
    ap (λ k. fold min k (times xs)) same ∙ fold_low m xs (rises_earlier m (suc x.0) xs (omega arith) r.1)

first_is_least : (low : ℕ) (xs : List Transaction) → RisesFrom low xs → reduce min (times xs) ≡ next_of xs
first_is_least low [] r = refl
first_is_least low (x ∷ xs) r = ap (λ k. Some k) (fold_low x.0 xs (rises_earlier x.0 (suc x.0) xs (omega arith) r.1))

pub none_next : next_time [] ≡ None
unfolding next_time
none_next = refl

-- a driver alone
pub only_next : (low : ℕ) (d : DriverState) (xs : List Transaction) → xs ≡ d.pending → RisesFrom low xs → next_time (d ∷ []) ≡ next_of xs
unfolding next_time
only_next low d xs is r =
    ap (λ (l : List ℕ). reduce min l) (append_none (times d.pending)) ∙ (ap (λ l. reduce min (times l)) (sym is) ∙ first_is_least low xs r)

abbrev pending_times : List DriverState → List ℕ
pending_times drivers = flat_map (λ (d : DriverState). times d.pending) drivers

-- the drivers of two lists
pub next_append : (ds es : List DriverState) → next_time (ds ++ es) ≡ earlier (next_time ds) (next_time es)
unfolding next_time
next_append ds es =
    ap (λ (l : List ℕ). reduce min l) (flat_map-append (λ (w : DriverState). times w.pending) ds es) ∙ reduce_append (pending_times ds) (pending_times es)

pub least_bound : (m : ℕ) (xs : List ℕ) → fold min m xs ≤ m
least_bound m [] = omega arith
least_bound m (x ∷ xs) = let h = least_bound (min m x) xs in omega (arith, h)

-- ---- the first pending time

pub first_is : (d : DriverState) (xs : List Transaction) → xs ≡ d.pending → RisesFrom 0 xs → next_of d.pending ≡ next_time (d ∷ [])
first_is d xs is r = ap next_of (sym is) ∙ sym (only_next 0 d xs is r)
