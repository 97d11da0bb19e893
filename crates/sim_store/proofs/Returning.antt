-- A phase that was handed out comes back as the contents of the simulation once all due processes have been executed.
use Rattle.std.proofs.Common.{ℕ, suc, ◌+◌, ◌-◌, ◌<◌, ◌≡◌, ◌++◌, ◌||◌, Bool, true, false, if◌then◌else◌, List}
use Rattle.std.proofs.Common.{length, refl, ap, sym, ◌∙◌, subst, arith}
use Rattle.std.proofs.Math.Decide.{dec_lt}
use Rattle.std.proofs.lemmas.List.{ext_get_or, get_or_append_left, get_or-append_right, length-append}
use Rattle.sim_flat_design.specs.Designs.{Design}
use Rattle.sim_exec_statements.specs.Ready.{IsReady}
use Rattle.sim_exec_code.specs.Codes.{Coded, AreCodesOf}
use Rattle.sim_standard.specs.State.{Owned, owned_at}
use Rattle.sim_standard.specs.Processes.{process_at}
use Rattle.sim_standard.proofs.Names.{nothing_owned}
use Rattle.sim_standard.proofs.Together.{length-merged, merged-none}
use Rattle.sim_standard.proofs.Parallel.{merged-below}
use Rattle.sim_store_nets.specs.Lists.{NetValues}
use Rattle.sim_store_nets.specs.Nets.{views_of}
use Rattle.sim_store_state.specs.FlatState.{FlatState}
use Rattle.sim_store_nets.proofs.Walks.{member_within}
use Rattle.sim_store_simulation.specs.Simulation.{Simulation, IsComplete, IsStateOf, is_before, is_due}
use Rattle.sim_store_simulation.specs.Simulation.{reached, those_in, updated_last, with_marks}
use Rattle.sim_store_simulation.specs.declared.phase.Phase.{Phase}
use Rattle.sim_store.specs.Handing.{IsPhaseInput, IsRange, at_phase, completed, result_in}
use Rattle.sim_store_simulation.proofs.Going.{held-count, reached-all, ready-here}
use Rattle.sim_store.proofs.Handed.{completed-other}

-- ---- adjacent ranges

module _ {h : Simulation} {all : List Owned} where
  pub range-both : {from : ℕ} (xs ys : List Owned) → IsRange h all from xs → IsRange h all (from + length xs) ys → IsRange h all from (xs ++ ys)
  range-both {from} xs ys a b = record {
    within = omega (arith, b.within, length-append xs ys);
    owned_are = λ i lt. elim (dec_lt i (length xs)) [
      | yes l ↦ get_or_append_left xs ys nothing_owned i l ∙ a.owned_are i l
      | no l ↦
          let j : i - length xs < length ys = omega (arith, l, lt, length-append xs ys) in
          let e : (from + length xs) + (i - length xs) ≡ from + i = omega (arith, l) in
          get_or-append_right xs ys (length xs) i nothing_owned refl (omega (arith, l)) ∙ (b.owned_are (i - length xs) j ∙ ap (owned_at all) e)
    ];
    ready = λ i lt. elim (dec_lt i (length xs)) [
      | yes l ↦
          subst (IsReady (process_at h.design.processes (from + i)).body (reached h).time) (sym (get_or_append_left xs ys nothing_owned i l)) (a.ready i l)
      | no l ↦
          let j : i - length xs < length ys = omega (arith, l, lt, length-append xs ys) in
          let e : (from + length xs) + (i - length xs) ≡ from + i = omega (arith, l) in
          let at = get_or-append_right xs ys (length xs) i nothing_owned refl (omega (arith, l)) in
          subst (IsReady (process_at h.design.processes (from + i)).body (reached h).time) (sym at)
          (subst (λ (k : ℕ). IsReady (process_at h.design.processes k).body (reached h).time (owned_at ys (i - length xs))) e (b.ready (i - length xs) j))
    ];
  }

  pub range-front : {from : ℕ} (xs ys : List Owned) → IsRange h all from (xs ++ ys) → IsRange h all from xs
  range-front {from} xs ys w = record {
    within = omega (arith, w.within, length-append xs ys);
    owned_are = λ i lt. sym (get_or_append_left xs ys nothing_owned i lt) ∙ w.owned_are i (omega (arith, lt, length-append xs ys));
    ready = λ i lt. subst (IsReady (process_at h.design.processes (from + i)).body (reached h).time) (get_or_append_left xs ys nothing_owned i lt)
        (w.ready i (omega (arith, lt, length-append xs ys)));
  }

  pub range-back : {from : ℕ} (xs ys : List Owned) (at : ℕ) → at ≡ from + length xs → IsRange h all from (xs ++ ys) → IsRange h all at ys
  range-back {from} xs ys at ea w = record {
    within = omega (arith, w.within, ea, length-append xs ys);
    owned_are = λ i lt.
        let e : from + (length xs + i) ≡ at + i = omega (arith, ea) in
        sym (behind i) ∙ (w.owned_are (length xs + i) (omega (arith, lt, length-append xs ys)) ∙ ap (owned_at all) e);
    ready = λ i lt.
        let e : from + (length xs + i) ≡ at + i = omega (arith, ea) in
        subst (IsReady (process_at h.design.processes (at + i)).body (reached h).time) (behind i)
        (subst (λ (k : ℕ). IsReady (process_at h.design.processes k).body (reached h).time (owned_at (xs ++ ys) (length xs + i))) e
        (w.ready (length xs + i) (omega (arith, lt, length-append xs ys))));
  }
    where
      behind : (i : ℕ) → owned_at (xs ++ ys) (length xs + i) ≡ owned_at ys i
      behind i =
          let e : (length xs + i) - length xs ≡ i = omega arith in
          get_or-append_right xs ys (length xs) (length xs + i) nothing_owned refl (omega arith) ∙ ap (owned_at ys) e

-- a range of the phase, from the number that it is said to begin with
pub range-of : (d : Design) (cycles k : ℕ) (phase p : Phase) (from n : ℕ) (owned : List Owned) → k ≡ cycles → p ≡ phase → n ≡ from
    → IsRange (at_phase d k p) (completed (at_phase d k p)).owned n owned → IsRange (at_phase d cycles phase) (completed (at_phase d cycles
    phase)).owned from owned
range-of d cycles k phase p from n owned ek ep en r =
    subst (λ (m : ℕ). IsRange (at_phase d cycles phase) (completed (at_phase d cycles phase)).owned m owned) en
    (subst (λ (q : Phase). IsRange (at_phase d cycles q) (completed (at_phase d cycles q)).owned n owned) ep
    (subst (λ (m : ℕ). IsRange (at_phase d m p) (completed (at_phase d m p)).owned n owned) ek r))

-- ---- at the beginning of a phase

module _ {h : Simulation} {time delta : ℕ} {held : FlatState} {due waiting : List Bool}
    (i : IsStateOf h time delta held due waiting) (fresh : (p : ℕ) → those_in h.deposited p ≡ false) where
  pub fresh-owned : held.owned ≡ (reached h).owned
  fresh-owned = i.owned_are ∙ merged-none (those_in h.deposited) (result_in h) 0 (reached h).owned fresh

  -- all processes are a range
  pub fresh-range : IsRange (at_phase h.design h.cycles h.phase) (reached h).owned 0 held.owned
  fresh-range = record {
    within = omega (arith, held-count i);
    owned_are = λ p lt. let e : 0 + p ≡ p = omega arith in ap (λ (os : List Owned). owned_at os p) fresh-owned ∙ ap (owned_at (reached h).owned) (sym e);
    ready = λ p lt.
        let e : 0 + p ≡ p = omega arith in
        subst (λ (k : ℕ). IsReady (process_at h.design.processes k).body (reached h).time (owned_at held.owned p)) (sym e)
        (subst (λ (t : ℕ). IsReady (process_at h.design.processes p).body t (owned_at held.owned p)) i.time_is
        (ready-here i p (omega (arith, lt, held-count i)) (fresh p)));
  }

  -- what is read is that of the phase
  pub fresh-input : (codes : Coded) (values : NetValues) → AreCodesOf h.design.processes codes → views_of values.present values.before ≡ held.nets
      → IsPhaseInput h.design h.design (record {
        cycles = h.cycles;
        phase = h.phase;
        time = time;
        codes = codes;
        values = values;
        due = due;
      })
  fresh-input codes values are nets = record {
    design_is = refl;
    processes = i.processes;
    all_own = reached-all i;
    codes_are = are;
    nets_are = nets ∙ i.nets_are;
    time_is = i.time_is;
    early = i.early;
    due_sized = i.due_sized;
    due_are = i.due_are;
  }

  -- ---- once all due processes have been executed

  module _ (owned' : List Owned) (marks : List Bool) (w : IsRange (at_phase h.design h.cycles h.phase) (completed (at_phase h.design h.cycles h.phase)).owned 0
      owned') (all : length owned' ≡ length h.design.processes) (sized : length marks ≡ length h.deposited)
      (same : (p : ℕ) → those_in marks p ≡ those_in due p) where
    back-at : (p : ℕ) → p < length owned' → owned_at owned' p ≡ owned_at (completed h).owned p
    back-at p lt = let e : 0 + p ≡ p = omega arith in w.owned_are p lt ∙ ap (owned_at (completed h).owned) e

    back-owned : owned' ≡ (completed h).owned
    back-owned =
        ext_get_or nothing_owned owned' (completed h).owned
        (all ∙ (sym (reached-all i) ∙ sym (length-merged (is_due h) (result_in h) 0 (reached h).owned))) back-at

    pub back-complete : IsComplete (with_marks h marks)
    back-complete p lt is = same p ∙ (i.due_are p lt ∙ is)

    pub back-keeps : IsStateOf (with_marks h marks) time delta (record { sources = held.sources; nets = held.nets; owned = owned' }) due waiting
    back-keeps = record {
      there = i.there;
      phased = i.phased;
      time_is = i.time_is;
      delta_is = i.delta_is;
      early = i.early;
      sources_are = i.sources_are;
      nets_are = i.nets_are;
      owned_are = back-owned ∙ merged-below (is_due h) (those_in marks) (result_in h) 0 (reached h).owned
          (λ k ge lt. sym (same k ∙ i.due_are k (omega (arith, lt, reached-all i))));
      sized = sized ∙ i.sized;
      due_sized = i.due_sized;
      waiting_sized = i.waiting_sized;
      few = i.few;
      processes = i.processes;
      due_are = i.due_are;
      waiting_are = i.waiting_are;
      ran = λ p e.
          let is : those_in due p ≡ true = sym (same p) ∙ e in
          sym (i.due_are p (omega (arith, member_within due p is, i.due_sized))) ∙ is;
      ready = λ p lt. at p lt (those_in due p) refl;
    }
      where
        before : ℕ → Bool
        before = is_before h.phase h.design h.cycles (updated_last h)

        at : (p : ℕ) → p < length h.design.processes → (b : Bool) → those_in due p ≡ b
            → IsReady (process_at h.design.processes p).body (if those_in marks p || before p then time else suc time) (owned_at owned' p)
        at p lt true e =
            let mark : those_in marks p ≡ true = same p ∙ e in
            let z : 0 + p ≡ p = omega arith in
            rw mark (subst (λ (t : ℕ). IsReady (process_at h.design.processes p).body t (owned_at owned' p)) (sym i.time_is)
            (subst (λ (k : ℕ). IsReady (process_at h.design.processes k).body (reached h).time (owned_at owned' p)) z (w.ready p (omega (arith, lt, all)))))
        at p lt false e =
            let mark : those_in marks p ≡ those_in h.deposited p = same p ∙ (e ∙ sym (fresh p)) in
            let own : owned_at owned' p ≡ owned_at held.owned p =
            back-at p (omega (arith, lt, all)) ∙ (completed-other h p (sym (i.due_are p lt) ∙ e) ∙ ap (λ (os : List Owned). owned_at os p) (sym fresh-owned)) in
            rw (mark, own) (i.ready p lt)
