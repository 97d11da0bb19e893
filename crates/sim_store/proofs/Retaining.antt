-- A simulation is taken apart, and put together again.
use Rattle.std.proofs.Common.{ℕ, zero, suc, ◌+◌, ◌<◌, ◌≡◌, ◌++◌, Bool, true, false, List, [], ◌∷◌}
use Rattle.std.proofs.Common.{length, refl, ap, sym, ◌∙◌, subst, arith}
use Rattle.std.specs.List.{All}
use Rattle.std.proofs.lemmas.List.{map-append}
use Rattle.std.proofs.lemmas.List.Elements.{All-get_or}
use Rattle.sim_logic.specs.declared.logic.Logic.{Logic}
use Rattle.sim_flat_design.specs.declared.design.Source.{Source}
use Rattle.sim_flat_design.specs.Designs.{Design}
use Rattle.sim_flat_design.specs.Processes.{IsProcess}
use Rattle.sim_exec_code.specs.Codes.{Coded, AreCodesOf}
use Rattle.sim_standard.specs.Drivers.{DriverState}
use Rattle.sim_standard.specs.declared.net_view.NetView.{NetView}
use Rattle.sim_standard.specs.State.{Owned, all_drivers, driver_values, net_at, owned_at}
use Rattle.sim_standard.specs.Processes.{object_net, process_at}
use Rattle.sim_standard.proofs.Frame.{same_owned_after}
use Rattle.sim_standard.proofs.ValuesKept.{values_kept}
use Rattle.sim_standard.proofs.Names.{no_process}
use Rattle.sim_store_nets.specs.Lists.{NetValues}
use Rattle.sim_store_nets.specs.Nets.{views_of}
use Rattle.sim_containers.specs.RowArray.{joined}
use Rattle.sim_store_state.specs.FlatState.{AreShares, FlatState, IsConsistent, counts}
use Rattle.sim_store_simulation.specs.Simulation.{Simulation, IsComplete, IsSimulation, IsStateOf, is_due}
use Rattle.sim_store_simulation.specs.Simulation.{reached, those_in, with_marks}
use Rattle.sim_store.specs.Handing.{PhaseInput, IsPhaseInput, IsRange, at_phase, completed, at_input, result_in}
use Rattle.sim_store.specs.declared.retained.RetainedContents.{RetainedContents}
use Rattle.sim_store.specs.Retained.{IsRetained, retained_of}
use Rattle.sim_store_simulation.proofs.Going.{reached-all}
use Rattle.sim_store.proofs.Handed.{completed-due, completed-other}
use Rattle.sim_store.proofs.Returning.{back-complete, back-keeps, fresh-input, fresh-owned, fresh-range}

-- ---- taken apart

module _ {h : Simulation} {time delta : ℕ} {held : FlatState} {due waiting : List Bool}
    (i : IsStateOf h time delta held due waiting) (fresh : (p : ℕ) → those_in h.deposited p ≡ false) where
  -- what is read is that of the phase, of the design that is named
  pub first-input : (d : Design) (n : ℕ) → h.design ≡ d → n ≡ h.cycles → (codes : Coded) (values : NetValues)
      → AreCodesOf h.design.processes codes → views_of values.present values.before ≡ held.nets
      → IsPhaseInput d h.design (record {
        cycles = n;
        phase = h.phase;
        time = time;
        codes = codes;
        values = values;
        due = due;
      })
  first-input d n ed en codes values are nets =
      subst (λ (k : ℕ). IsPhaseInput d h.design (record {
        cycles = k;
        phase = h.phase;
        time = time;
        codes = codes;
        values = values;
        due = due;
      })) (sym en)
      (subst (λ (e : Design). IsPhaseInput e h.design (record {
        cycles = h.cycles;
        phase = h.phase;
        time = time;
        codes = codes;
        values = values;
        due = due;
      })) ed (fresh-input i fresh codes values are nets))

  -- and all that is owned is a range of that
  pub first-range : (d : Design) (n : ℕ) → h.design ≡ d → n ≡ h.cycles → (owned : List Owned) → owned ≡ held.owned
      → IsRange (at_phase d n h.phase) (reached (at_phase d n h.phase)).owned 0 owned
  first-range d n ed en owned eo =
      subst (λ (k : ℕ). IsRange (at_phase d k h.phase) (reached (at_phase d k h.phase)).owned 0 owned) (sym en)
      (subst (λ (e : Design). IsRange (at_phase e h.cycles h.phase) (reached (at_phase e h.cycles h.phase)).owned 0 owned) ed
      (subst (λ (w : List Owned). IsRange (at_phase h.design h.cycles h.phase) (reached (at_phase h.design h.cycles h.phase)).owned 0 w) (sym eo)
      (fresh-range i fresh)))

  -- the state by its parts
  pub first-state : (sources : List (List Source)) (nets : List NetView) → sources ≡ held.sources → nets ≡ held.nets
      → IsStateOf h time delta (record { sources = sources; nets = nets; owned = (reached h).owned }) due waiting
  first-state sources nets es en =
      let e : held ≡ record { sources = sources; nets = nets; owned = (reached h).owned } =
      ap (λ (w : List (List Source)). record { sources = w; nets = held.nets; owned = held.owned }) (sym es)
      ∙ (ap (λ (w : List NetView). record { sources = sources; nets = w; owned = held.owned }) (sym en)
      ∙ ap (λ (w : List Owned). record { sources = sources; nets = nets; owned = w }) (fresh-owned i fresh)) in
      subst (λ (w : FlatState). IsStateOf h time delta w due waiting) e i

-- ---- put together again

-- the values of all drivers, if those of each process have the same
all-values : (os os' : List Owned) → length os' ≡ length os
    → ((p : ℕ) → p < length os → driver_values (owned_at os' p).drivers ≡ driver_values (owned_at os p).drivers)
    → driver_values (all_drivers os') ≡ driver_values (all_drivers os)
all-values [] [] e same = refl
all-values [] (o' ∷ os') e same = absurd (omega (arith, e))
all-values (o ∷ os) [] e same = absurd (omega (arith, e))
all-values (o ∷ os) (o' ∷ os') e same =
    let value : DriverState → Logic = λ d. d.value in
    let rest = all-values os os' (omega (arith, e)) (λ p lt. same (suc p) (omega (arith, lt))) in
    map-append value o'.drivers (all_drivers os') ∙ (ap (λ (ws : List Logic). ws ++ driver_values (all_drivers os')) (same zero (omega arith))
    ∙ (ap (λ (ws : List Logic). driver_values o.drivers ++ ws) rest ∙ sym (map-append value o.drivers (all_drivers os))))

-- an execution leaves the values of drivers
result-values : (h : Simulation) (p : ℕ) → All IsProcess h.design.processes → p < length h.design.processes
    → driver_values (result_in h p).drivers ≡ driver_values (owned_at (reached h).owned p).drivers
result-values h p all lt =
    let q = process_at h.design.processes p in
    let is : IsProcess q = All-get_or IsProcess h.design.processes p no_process lt all in
    let own = owned_at (reached h).owned p in
    let look = λ (object : ℕ). net_at (reached h).nets (object_net q object) in
    ap (λ (w : Owned). driver_values w.drivers) (sym (same_owned_after q p (reached h) is)) ∙ values_kept look (reached h).time q.body.statements own

module _ (d : Design) (f : PhaseInput) (k : RetainedContents) (is : IsRetained d f k) (owned' : List Owned)
    (range : IsRange (at_input d f) (completed (at_input d f)).owned 0 owned') (all : length owned' ≡ length d.processes) where
  i : IsStateOf (retained_of d f k) f.time k.delta
      (record { sources = k.lists.sources; nets = views_of f.values.present f.values.before; owned = (reached (retained_of d f k)).owned }) f.due
      k.waiting.waiting
  i = is.holds.state

  sized-now : length f.due ≡ length (retained_of d f k).deposited
  sized-now = i.due_sized ∙ sym i.sized

  -- no driver has another value
  same-values : (p : ℕ) → p < length (reached (retained_of d f k)).owned → (b : Bool) → is_due (retained_of d f k) p ≡ b
      → driver_values (owned_at owned' p).drivers ≡ driver_values (owned_at (reached (retained_of d f k)).owned p).drivers
  same-values p lt b e =
      let z : 0 + p ≡ p = omega arith in
      let same : owned_at owned' p ≡ owned_at (completed (at_input d f)).owned p =
      range.owned_are p (omega (arith, lt, all, reached-all i)) ∙ ap (owned_at (completed (at_input d f)).owned) z in
      ap (λ (w : Owned). driver_values w.drivers) same ∙ go b e
    where
      go : (b : Bool) → is_due (retained_of d f k) p ≡ b
          → driver_values (owned_at (completed (at_input d f)).owned p).drivers ≡ driver_values (owned_at (reached (retained_of d f k)).owned p).drivers
      go true t =
          ap (λ (w : Owned). driver_values w.drivers) (completed-due (at_input d f) p t lt)
          ∙ result-values (at_input d f) p i.processes (omega (arith, lt, reached-all i))
      go false t = ap (λ (w : Owned). driver_values w.drivers) (completed-other (at_input d f) p t)

  -- so the state that the shares make is consistent
  pub whole-consistent : (shares : List (List Owned)) → joined shares ≡ owned' → AreShares (counts shares) → IsConsistent f.values shares k.lists
  whole-consistent shares eo sizes = record {
    shared = sizes;
    nets = is.split.nets;
    valued = is.split.valued
        ∙ (sym (all-values (reached (retained_of d f k)).owned owned' (all ∙ sym (reached-all i))
        (λ p lt. same-values p lt (is_due (retained_of d f k) p) refl))
        ∙ ap (λ (os : List Owned). driver_values (all_drivers os)) (sym eo));
    resolving = is.split.resolving;
    touching = is.split.touching;
  }

  -- all due processes have been executed
  module _ (own : Design) (eo : own ≡ d) where
    pub whole-same : record { design = own; cycles = f.cycles; phase = f.phase; deposited = f.due } ≡ with_marks (retained_of d f k) f.due
    whole-same = ap (λ (e : Design). record { design = e; cycles = f.cycles; phase = f.phase; deposited = f.due }) eo

    pub whole-complete : IsComplete (record { design = own; cycles = f.cycles; phase = f.phase; deposited = f.due })
    whole-complete = subst IsComplete (sym whole-same) (back-complete i is.fresh owned' f.due range all sized-now (λ p. refl))

    pub whole-holds : (state : FlatState) → state ≡ record { sources = k.lists.sources; nets = views_of f.values.present f.values.before; owned = owned' }
        → IsSimulation (record { design = own; cycles = f.cycles; phase = f.phase; deposited = f.due }) k.sensitive f.codes k.frame f.time k.delta state
        f.due k.deposited k.waiting.postponed k.waiting.waiting k.totals.items
    whole-holds state es =
        subst (λ (g : Simulation). IsSimulation g k.sensitive f.codes k.frame f.time k.delta state f.due k.deposited k.waiting.postponed
        k.waiting.waiting k.totals.items) (sym whole-same)
        (subst (λ (w : FlatState). IsSimulation (with_marks (retained_of d f k) f.due) k.sensitive f.codes k.frame f.time k.delta w f.due
        k.deposited k.waiting.postponed k.waiting.waiting k.totals.items) (sym es) (record {
          compiled = is.holds.compiled;
          marked = is.holds.marked;
          state = back-keeps i is.fresh owned' f.due range all sized-now (λ p. refl);
          marks_sized = is.holds.marks_sized;
          counts = is.holds.counts;
        }))
