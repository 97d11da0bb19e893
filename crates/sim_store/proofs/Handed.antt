-- The processes of a range, executed one after another.
use Rattle.std.proofs.Common.{ℕ, zero, suc, ◌+◌, ◌-◌, ◌<◌, ◌≤◌, ◌≡◌, ◌≢◌, ◌||◌, eqb, Bool, true, false, if◌then◌else◌, List}
use Rattle.std.proofs.Common.{[], ◌∷◌, length, set, refl, ap, sym, ◌∙◌, subst, arith}
use Rattle.std.proofs.lemmas.Bool.Decides.{nat_tests}
use Rattle.std.specs.List.{All}
use Rattle.std.proofs.lemmas.List.{get_or-set_same, get_or-set_other, length-set}
use Rattle.std.proofs.lemmas.List.Elements.{All-get_or}
use Rattle.sim_flat_design.specs.Bodies.{Body}
use Rattle.sim_flat_design.specs.Designs.{Design}
use Rattle.sim_flat_design.specs.Processes.{Process, IsProcess}
use Rattle.sim_exec_statements.specs.Ready.{IsReady}
use Rattle.sim_standard.specs.declared.net_view.NetView.{NetView}
use Rattle.sim_standard.specs.State.{Owned, net_at, owned_at}
use Rattle.sim_standard.specs.Statements.{executed}
use Rattle.sim_standard.specs.Processes.{object_net, process_at}
use Rattle.sim_standard.specs.Together.{merged}
use Rattle.sim_standard.proofs.Names.{no_process, nothing_owned}
use Rattle.sim_standard.proofs.Frame.{same_owned_after}
use Rattle.sim_standard.proofs.Together.{merged-out}
use Rattle.sim_standard.specs.Orders.{is_among, NoRepeats}
use Rattle.sim_standard.proofs.Numbers.{counted, counted-in, counted-once, ranged}
use Rattle.sim_store_share.specs.InTurn.{AreExecuted, IsExecutable, after_one, left_by, nets_in, process_in}
use Rattle.sim_store_share.specs.declared.reading.Reading.{Reading}
use Rattle.sim_store_simulation.specs.Simulation.{Simulation, is_due, reached}
use Rattle.sim_store.specs.Handing.{PhaseInput, IsPhaseInput, IsRange, completed, at_input, due_from, result_in}
use Rattle.sim_store.proofs.Places.{among-within, counted-within}

-- a process of the set owns its result
pub merged-in : (f : ℕ → Bool) (r : ℕ → Owned) (i p n : ℕ) (os : List Owned) → n ≡ i + p → f n ≡ true → p < length os
    → owned_at (merged f r i os) p ≡ r n
unfolding merged
merged-in f r i p n [] q is lt = absurd (omega (arith, lt))
merged-in f r i zero n (o ∷ os) q is lt =
    let at : i ≡ n = omega arith in
    let e : f i ≡ true = ap f at ∙ is in
    rw e (ap r at)
merged-in f r i (suc p) n (o ∷ os) q is lt = merged-in f r (suc i) p n os (omega arith) is (omega (arith, lt))

-- A due process owns its result once all have been executed, the others what they owned.
pub completed-due : (h : Simulation) (p : ℕ) → is_due h p ≡ true → p < length (reached h).owned → owned_at (completed h).owned p ≡ result_in h p
completed-due h p is lt = merged-in (is_due h) (result_in h) 0 p p (reached h).owned (omega arith) is lt

pub completed-other : (h : Simulation) (p : ℕ) → is_due h p ≡ false → owned_at (completed h).owned p ≡ owned_at (reached h).owned p
completed-other h p is = merged-out (is_due h) (result_in h) 0 p p (reached h).owned (omega arith) is

-- executing a process as it is at the beginning of the phase leaves its result
pub result-executed : (h : Simulation) (n time : ℕ) (own : Owned) → All IsProcess h.design.processes → n < length h.design.processes
    → time ≡ (reached h).time → own ≡ owned_at (reached h).owned n
    → executed (λ object. net_at (reached h).nets (object_net (process_at h.design.processes n) object)) time
    (process_at h.design.processes n).body.statements own ≡ result_in h n
result-executed h n time own all lt et eo =
    let q = process_at h.design.processes n in
    let is : IsProcess q = All-get_or IsProcess h.design.processes n no_process lt all in
    rw (et, eo) (same_owned_after q n (reached h) is)

-- the same, for the process and the nets at hand
pub executed-is : (h : Simulation) (n time : ℕ) (own : Owned) (nets : List NetView) (q : Process) → All IsProcess h.design.processes
    → n < length h.design.processes → time ≡ (reached h).time → own ≡ owned_at (reached h).owned n → nets ≡ (reached h).nets
    → q ≡ process_at h.design.processes n
    → executed (λ object. net_at nets (object_net q object)) time q.body.statements own ≡ result_in h n
executed-is h n time own nets q all lt et eo en eq = rw (en, eq) (result-executed h n time own all lt et eo)

-- ---- the due processes of a range

module _ {design own : Design} {f : PhaseInput} (i : IsPhaseInput design own f) (r : Reading) (ep : r.processes.now ≡ design.processes)
    (en : nets_in r ≡ (reached (at_input design f)).nets) (et : r.time ≡ f.time) where
  same-process : (n : ℕ) → process_in r n ≡ process_at design.processes n
  same-process n = ap (λ (ps : List Process). process_at ps n) ep

  same-time : r.time ≡ (reached (at_input design f)).time
  same-time = et ∙ i.time_is

  -- those of a range can be executed
  pub range-executable : (numbers : List ℕ) (owned : List Owned) → numbers ≡ due_from (at_input design f) r.first (length owned)
      → IsRange (at_input design f) (reached (at_input design f)).owned r.first owned → All (IsExecutable r owned) numbers
  range-executable numbers owned is w =
      let h = at_input design f in
      subst (λ (ns : List ℕ). All (IsExecutable r owned) ns) (sym (is ∙ ranged (is_due h) r.first (length owned)))
      (counted-within (is_due h) r.first (length owned) (IsExecutable r owned) (λ n ge lt.
      let at : r.first + (n - r.first) ≡ n = omega (arith, ge) in
      let inside : n - r.first < length owned = omega (arith, ge, lt) in
      let ready = w.ready (n - r.first) inside in
      record {
        from = ge;
        number = omega (arith, lt, w.within, ap length ep);
        owns = inside;
        ready = subst (λ (q : Process). IsReady q.body r.time (owned_at owned (n - r.first))) (sym (same-process n))
            (subst (λ (t : ℕ). IsReady (process_at design.processes n).body t (owned_at owned (n - r.first))) (sym same-time)
            (subst (λ (k : ℕ). IsReady (process_at design.processes k).body (reached h).time (owned_at owned (n - r.first))) at ready));
      }))

  -- one process has been executed, and no other owns something else
  one-executed : (n k : ℕ) (old : List Owned) (ns : List ℕ) → r.first ≤ n → n < r.first + length old → is_among ns n ≡ false
      → (b : Bool) → eqb n (r.first + k) ≡ b
      → (if is_among ns (r.first + k) then left_by r (r.first + k) (owned_at (after_one r old n) k) else owned_at (after_one r old n) k)
      ≡ (if b || is_among ns (r.first + k) then left_by r (r.first + k) (owned_at old k) else owned_at old k)
  one-executed n k old ns from below out true q =
      let same : n ≡ r.first + k = grind (arith, nat_tests) in
      let at : n - r.first ≡ k = omega (arith, same) in
      let own : Owned = left_by r n (owned_at old k) in
      rw (ap (is_among ns) (sym same) ∙ out)
      (ap (λ (m : ℕ). owned_at (set old m (left_by r n (owned_at old m))) k) at
      ∙ (get_or-set_same old k own nothing_owned (omega (arith, at, from, below)) ∙ ap (λ (m : ℕ). left_by r m (owned_at old k)) same))
  one-executed n k old ns from below out false q =
      let other : n ≢ r.first + k = grind (arith, nat_tests) in
      let apart : k ≢ n - r.first = λ e. other (omega (arith, e, from)) in
      let own : Owned = left_by r n (owned_at old (n - r.first)) in
      ap (λ (o : Owned). if is_among ns (r.first + k) then left_by r (r.first + k) o else o)
      (get_or-set_other old (n - r.first) k own nothing_owned apart)

  -- each of some has been executed
  executed-each : (numbers : List ℕ) (old new : List Owned) → NoRepeats numbers
      → ((n : ℕ) → is_among numbers n ≡ true → (r.first ≤ n) × (n < r.first + length old)) → AreExecuted r numbers old new → (k : ℕ)
      → owned_at new k ≡ (if is_among numbers (r.first + k) then left_by r (r.first + k) (owned_at old k) else owned_at old k)
  executed-each [] old new once within e k = ap (λ (os : List Owned). owned_at os k) e
  executed-each (n ∷ ns) old new once within e k =
      let here : eqb n n ≡ true = grind (arith, nat_tests) in
      let there = within n (ap (λ (b : Bool). b || is_among ns n) here) in
      let long = length-set old (n - r.first) (left_by r n (owned_at old (n - r.first))) in
      executed-each ns (after_one r old n) new once.1
      (λ m a. let w = within m (later (eqb n m) (is_among ns m) a) in (w.0, omega (arith, w.1, long))) e.1 k
      ∙ one-executed n k old ns there.0 there.1 once.0 (eqb n (r.first + k)) refl
    where
      later : (a b : Bool) → b ≡ true → (a || b) ≡ true
      later true b e = refl
      later false b e = e

  pub range-executed : (numbers : List ℕ) (old new : List Owned) → numbers ≡ due_from (at_input design f) r.first (length old)
      → IsRange (at_input design f) (reached (at_input design f)).owned r.first old → length new ≡ length old
      → ((p : ℕ) (body : Body) → IsReady body r.time (owned_at old p) → IsReady body r.time (owned_at new p)) → AreExecuted r numbers old new
      → IsRange (at_input design f) (completed (at_input design f)).owned r.first new
  range-executed numbers old new is w sized ready e = record {
    within = omega (arith, w.within, sized);
    owned_are = λ k lt. each k ∙ go k (omega (arith, lt, sized)) (is_due (at_input design f) (r.first + k)) refl;
    ready = λ k lt.
        let body = (process_at design.processes (r.first + k)).body in
        subst (λ (t : ℕ). IsReady body t (owned_at new k)) same-time
        (ready k body (subst (λ (t : ℕ). IsReady body t (owned_at old k)) (sym same-time) (w.ready k (omega (arith, lt, sized)))));
  }
    where
      each : (k : ℕ) → owned_at new k
          ≡ (if is_among (counted (is_due (at_input design f)) r.first (length old)) (r.first + k)
          then left_by r (r.first + k) (owned_at old k) else owned_at old k)
      each =
          executed-each (counted (is_due (at_input design f)) r.first (length old)) old new (counted-once (is_due (at_input design f)) r.first (length old))
          (among-within (is_due (at_input design f)) r.first (length old))
          (subst (λ (ns : List ℕ). AreExecuted r ns old new) (is ∙ ranged (is_due (at_input design f)) r.first (length old)) e)

      go : (k : ℕ) → k < length old → (b : Bool) → is_due (at_input design f) (r.first + k) ≡ b
          → (if is_among (counted (is_due (at_input design f)) r.first (length old)) (r.first + k)
          then left_by r (r.first + k) (owned_at old k) else owned_at old k)
          ≡ owned_at (completed (at_input design f)).owned (r.first + k)
      go k lt b q =
          rw (counted-in (is_due (at_input design f)) r.first (length old) (r.first + k) (omega arith) (omega (arith, lt)) ∙ q) (by b q)
        where
          below : r.first + k < length design.processes
          below = omega (arith, lt, w.within)

          by : (b : Bool) → is_due (at_input design f) (r.first + k) ≡ b
              → (if b then left_by r (r.first + k) (owned_at old k) else owned_at old k) ≡ owned_at (completed (at_input design f)).owned (r.first + k)
          by true q =
              executed-is (at_input design f) (r.first + k) r.time (owned_at old k) (nets_in r) (process_in r (r.first + k)) i.processes below same-time
              (w.owned_are k lt) en (same-process (r.first + k))
              ∙ sym (completed-due (at_input design f) (r.first + k) q (omega (arith, below, i.all_own)))
          by false q = w.owned_are k lt ∙ sym (completed-other (at_input design f) (r.first + k) q)
