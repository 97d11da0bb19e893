-- Pending times: the least of them.
use Rattle.std.proofs.Common.{◌≡◌, ℕ, zero, suc, ◌<◌, ◌≤◌, min, List, [], ◌∷◌, ◌++◌, length}
use Rattle.std.proofs.Common.{get_or, map, Some, None, refl, ap, sym, ◌∙◌, arith}
use Rattle.std.proofs.Common.{MatchOption, fold, ◌⊎◌, inl, inr}
use Rattle.std.proofs.Math.Decide.{dec_lt}
use Rattle.std.specs.List.{All, Contains, reduce}
use Rattle.std.proofs.lemmas.List.Concat.{flat_map-append}
use Rattle.std.proofs.lemmas.List.Sums.{fold-append}
use Rattle.sim_standard.specs.Drivers.{Transaction, DriverState, next_time}
use Rattle.sim_store_state.specs.Times.{pending_times, IsNext}
use Rattle.sim_containers.specs.Times.{earlier}

abbrev pub times : List Transaction → List ℕ
times xs = map (λ (x : Transaction). x.0) xs

-- ---- the least of a list

append_none : {X : Type 0} (xs : List X) → xs ++ [] ≡ xs
append_none [] = refl
append_none (x ∷ xs) = ap (λ l. x ∷ l) (append_none xs)

fold_min : (m n : ℕ) (xs : List ℕ) → fold min (min m n) xs ≡ min m (fold min n xs)
fold_min m n [] = refl
fold_min m n (x ∷ xs) = ap (λ k. fold min k xs) (omega arith) ∙ fold_min m (min n x) xs

reduce_append : (xs ys : List ℕ) → reduce min (xs ++ ys) ≡ earlier (reduce min xs) (reduce min ys)
reduce_append [] ys = refl
reduce_append (x ∷ xs) [] = ap (λ (l : List ℕ). reduce min l) (append_none (x ∷ xs))
reduce_append (x ∷ xs) (y ∷ ys) = ap (λ k. Some k) (fold-append min x xs (y ∷ ys) ∙ fold_min (fold min x xs) y ys)

pub none_next : next_time [] ≡ None
unfolding next_time
none_next = refl

-- the drivers of two lists
pub next_append : (ds es : List DriverState) → next_time (ds ++ es) ≡ earlier (next_time ds) (next_time es)
unfolding next_time
next_append ds es =
    ap (λ (l : List ℕ). reduce min l) (flat_map-append (λ (w : DriverState). times w.pending) ds es) ∙ reduce_append (pending_times ds) (pending_times es)

-- ---- the function gives what the relation says

pub least_bound : (m : ℕ) (xs : List ℕ) → fold min m xs ≤ m
least_bound m [] = omega arith
least_bound m (x ∷ xs) = let h = least_bound (min m x) xs in omega (arith, h)

least_each : (m : ℕ) (xs : List ℕ) (k d : ℕ) → k < length (m ∷ xs) → fold min m xs ≤ get_or (m ∷ xs) k d
least_each m xs zero d lt = least_bound m xs
least_each m [] (suc k) d lt = absurd (omega arith)
least_each m (x ∷ xs) (suc zero) d lt = let h = least_bound (min m x) xs in omega (arith, h)
least_each m (x ∷ xs) (suc (suc k)) d lt = least_each (min m x) xs (suc k) d (omega arith)

lesser : (m x : ℕ) → (min m x ≡ m) ⊎ (min m x ≡ x)
lesser m x = elim (dec_lt m x) [ yes h ↦ inl (omega arith) | no h ↦ inr (omega arith) ]

contains_least : (m : ℕ) (xs : List ℕ) → Contains (m ∷ xs) (fold min m xs)
contains_least m [] = (0, omega arith, refl)
contains_least m (x ∷ xs) = go (contains_least (min m x) xs)
  where
    go : Contains (min m x ∷ xs) (fold min (min m x) xs) → Contains (m ∷ x ∷ xs) (fold min (min m x) xs)
    go (zero, lt, e) = elim (lesser m x) [ inl h ↦ (0, omega arith, sym h ∙ e) | inr h ↦ (1, omega arith, sym h ∙ e) ]
    go (suc k, lt, e) = (suc (suc k), omega arith, e)

is_least : (xs : List ℕ) → MatchOption (reduce min xs) (xs ≡ []) (λ t. Contains xs t × All (λ (u : ℕ). t ≤ u) xs)
is_least [] = refl
is_least (x ∷ xs) = (contains_least x xs, λ k d lt. least_each x xs k d lt)

pub next_is_least : (ds : List DriverState) → IsNext ds (next_time ds)
unfolding next_time
next_is_least ds = is_least (pending_times ds)

-- ---- the first pending time
