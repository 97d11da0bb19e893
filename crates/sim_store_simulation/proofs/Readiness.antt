-- After a cycle at the least pending time, all pending transactions are later.
use Rattle.std.proofs.Common.{ℕ, suc, ◌<◌, ◌≤◌, ◌≡◌, Bool, true, false, if◌then◌else◌, List, [], ◌∷◌, ◌++◌, map, eqb, ◌==◌, Some, append_assoc, length}
use Rattle.std.proofs.Common.{refl, ap, sym, ◌∙◌, subst, arith, eqb-true, zero}
use Rattle.std.specs.List.{All}
use Rattle.std.proofs.lemmas.Bool.{eqb-false}
use Rattle.std.proofs.lemmas.List.{length-map}
use Rattle.std.proofs.lemmas.List.Elements.{All-cons, All-head, All-map, All-nil, All-tail}
use Rattle.sim_standard.specs.Drivers.{Transaction, DriverState, taken, next_time}
use Rattle.sim_wave.specs.Rising.{RisesFrom}
use Rattle.sim_store_state.specs.Times.{pending_times, IsNext}
use Rattle.sim_flat_design.specs.Bodies.{Body}
use Rattle.sim_standard.specs.State.{Owned, owned_at, all_drivers}
use Rattle.sim_exec_statements.specs.Ready.{IsReady}
use Rattle.sim_standard.proofs.Names.{own_taken}
use Rattle.sim_store_state.proofs.Times.{next_is_least}

-- none of these times is earlier than this one
abbrev pub AllFrom : ℕ → List ℕ → Type 0
AllFrom t [] = Unit {0}
AllFrom t (x ∷ xs) = (t ≤ x) × AllFrom t xs

pub each_from : (t : ℕ) (xs : List ℕ) → All (λ (u : ℕ). t ≤ u) xs → AllFrom t xs
each_from t [] h = tt
each_from t (x ∷ xs) h = (All-head (λ (u : ℕ). t ≤ u) x xs h, each_from t xs (All-tail (λ (u : ℕ). t ≤ u) x xs h))

pub front : (t : ℕ) (xs ys : List ℕ) → AllFrom t (xs ++ ys) → AllFrom t xs
front t [] ys h = tt
front t (x ∷ xs) ys h = (h.0, front t xs ys h.1)

pub rest : (t : ℕ) (xs ys : List ℕ) → AllFrom t (xs ++ ys) → AllFrom t ys
rest t [] ys h = h
rest t (x ∷ xs) ys h = rest t xs ys h.1

-- the least pending time is no later than any
pub least_from : (t : ℕ) (ds : List DriverState) → next_time ds ≡ Some t → AllFrom t (pending_times ds)
least_from t ds e = let least = subst (IsNext ds) e (next_is_least ds) in each_from t (pending_times ds) least.1

-- if pending times rise and none is below this one, all are later after a transaction of this time is taken
taken_later : (low t : ℕ) (d : DriverState) (xs : List Transaction) → d.pending ≡ xs → RisesFrom low xs → AllFrom t (map (λ (x : Transaction). x.0) xs)
    → RisesFrom (suc t) (taken t d).pending
taken_later low t d [] e r f =
    let none : taken t d ≡ d = rw e refl in
    let is : (taken t d).pending ≡ [] = ap (λ (w : DriverState). w.pending) none ∙ e in
    rw is tt
taken_later low t d (x ∷ xs) e r f =
    let opened : taken t d ≡ (if x.0 == t then record { value = x.1; pending = xs } else d) = rw e refl in
    go (eqb x.0 t) refl opened
  where
    go : (b : Bool) → eqb x.0 t ≡ b → taken t d ≡ (if eqb x.0 t then record { value = x.1; pending = xs } else d)
        → RisesFrom (suc t) (taken t d).pending
    go true q o =
        let at : x.0 ≡ t = eqb-true x.0 t q in
        let is : (taken t d).pending ≡ xs = ap (λ (w : DriverState). w.pending) o ∙ rw q refl in
        rw is (subst (λ (n : ℕ). RisesFrom (suc n) xs) at r.1)
    go false q o =
        let apart = eqb-false x.0 t q in
        let kept : (if eqb x.0 t then record { value = x.1; pending = xs } else d) ≡ d = rw q refl in
        let is : (taken t d).pending ≡ x ∷ xs = ap (λ (w : DriverState). w.pending) (o ∙ kept) ∙ e in
        rw is (omega (arith, f.0, apart), r.1)

drivers_later : (low t : ℕ) (ds : List DriverState) → All (λ (d : DriverState). RisesFrom low d.pending) ds → AllFrom t (pending_times ds)
    → All (λ (d : DriverState). RisesFrom (suc t) (taken t d).pending) ds
drivers_later low t [] r f = All-nil (λ (d : DriverState). RisesFrom (suc t) (taken t d).pending)
drivers_later low t (d ∷ ds) r f =
    let own : List ℕ = map (λ (x : Transaction). x.0) d.pending in
    All-cons (λ (w : DriverState). RisesFrom (suc t) (taken t w).pending) d ds
    (taken_later low t d d.pending refl (All-head (λ (w : DriverState). RisesFrom low w.pending) d ds r) (front t own (pending_times ds) f))
    (drivers_later low t ds (All-tail (λ (w : DriverState). RisesFrom low w.pending) d ds r) (rest t own (pending_times ds) f))

-- what a process owns fits it after the cycle, and all pending transactions are later
pub taken_ready : (body : Body) (low t : ℕ) (own : Owned) → IsReady body low own → AllFrom t (pending_times own.drivers)
    → IsReady body (suc t) (own_taken t own)
taken_ready body low t own is f = record {
  drivers = length-map own.drivers (taken t) ∙ is.drivers;
  variables = is.variables;
  pending = All-map (λ (d : DriverState). RisesFrom (suc t) d.pending) (taken t) own.drivers (drivers_later low t own.drivers is.pending f);
}

-- the times of drivers, and of others after them
times_append : (ds es : List DriverState) → pending_times (ds ++ es) ≡ pending_times ds ++ pending_times es
times_append [] es = refl
times_append (d ∷ ds) es = ap (λ (xs : List ℕ). map (λ (x : Transaction). x.0) d.pending ++ xs) (times_append ds es)
    ∙ sym (append_assoc (map (λ (x : Transaction). x.0) d.pending) (pending_times ds) (pending_times es))

-- the times of each process are among those of all
pub each_process : (t : ℕ) (os : List Owned) (p : ℕ) → p < length os → AllFrom t (pending_times (all_drivers os))
    → AllFrom t (pending_times (owned_at os p).drivers)
each_process t [] p lt f = absurd (omega (arith, lt))
each_process t (o ∷ os) zero lt f =
    front t (pending_times o.drivers) (pending_times (all_drivers os)) (subst (AllFrom t) (times_append o.drivers (all_drivers os)) f)
each_process t (o ∷ os) (suc p) lt f =
    each_process t os p (omega (arith, lt)) (rest t (pending_times o.drivers) (pending_times (all_drivers os)) (subst (AllFrom t)
    (times_append o.drivers (all_drivers os)) f))

-- each process is ready after the cycle at the least pending time
pub ready_after : (body : Body) (low t : ℕ) (os : List Owned) (p : ℕ) → p < length os → next_time (all_drivers os) ≡ Some t → IsReady body low (owned_at os p)
    → IsReady body (suc t) (own_taken t (owned_at os p))
ready_after body low t os p lt e is = taken_ready body low t (owned_at os p) is (each_process t os p lt (least_from t (all_drivers os) e))
