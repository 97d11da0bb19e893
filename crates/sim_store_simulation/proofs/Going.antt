-- A simulation goes on: after each step it holds what belongs to the simulation then.
use Rattle.std.proofs.Common.{ℕ, zero, suc, ◌+◌, ◌<◌, ◌≤◌, ◌≡◌, ◌≢◌, ◌==◌, ◌&&◌, ◌||◌, ◌↔◌, IsTrue, not, eqb, Bool, true, false}
use Rattle.std.proofs.Common.{if◌then◌else◌, List, [], ◌∷◌, ◌++◌}
use Rattle.std.proofs.Common.{length, get_or, set, map, take, drop, replicate, refl, ap, sym, ◌∙◌, subst, arith, Option, None, Some, MatchOption}
use Rattle.std.specs.List.{All}
use Rattle.std.specs.Prelude.{option_map}
use Rattle.std.proofs.lemmas.Bool.Decides.{nat_tests}
use Rattle.std.proofs.lemmas.List.{get_or-set_same, get_or-set_other, length-set, length-map, get_or-map, length-replicate}
use Rattle.std.proofs.lemmas.List.Elements.{All-map, All-weaker}
use Rattle.std.proofs.lemmas.List.{drop-drop, ext_get_or, length-take-le}
use Rattle.sim_standard.specs.Drivers.{Transaction, DriverState, next_time}
use Rattle.sim_wave.specs.Rising.{RisesFrom}
use Rattle.sim_flat_design.specs.Bodies.{Body}
use Rattle.sim_flat_design.specs.declared.design.DriverOf.{DriverOf}
use Rattle.sim_flat_design.specs.Designs.{AreOwned, Design, most}
use Rattle.sim_flat_design.specs.Processes.{Process, IsProcess}
use Rattle.sim_standard.specs.declared.net_view.NetView.{NetView}
use Rattle.std.proofs.lemmas.List.Elements.{All-get_or}
use Rattle.sim_standard.specs.State.{State, Owned, driver_values, net_at, owned_at, all_drivers}
use Rattle.sim_standard.specs.Statements.{executed}
use Rattle.sim_standard.specs.Processes.{object_net, part, owned_after, process_at}
use Rattle.sim_standard.proofs.Frame.{same_owned_after}
use Rattle.sim_standard.proofs.ValuesKept.{values_kept}
use Rattle.sim_logic.specs.Time.{largest_time}
use Rattle.sim_exec_statements.specs.Ready.{IsReady, holds_bit}
use Rattle.sim_exec.specs.Jobs.{IsJob, Job, job_state, result_of}
use Rattle.sim_standard.specs.Cycle.{is_at_once, is_resumed, is_waiting, updated}
use Rattle.sim_standard.specs.Cycle.{Following, CycleAt, PostponedDelta, following, has_postponed_delta}
use Rattle.sim_standard.specs.Orders.{is_among}
use Rattle.sim_standard.specs.Initialization.{first_owned, first_state}
use Rattle.sim_standard.proofs.Names.{no_process, nothing_owned, own_taken}
use Rattle.sim_flat_design.specs.declared.design.Source.{Source}
use Rattle.sim_store_nets.specs.Nets.{sources_of}
use Rattle.sim_store_state.specs.FlatState.{FlatState, flat_state_of}
use Rattle.sim_store_state.specs.Sensitive.{has_event_in}
use Rattle.sim_standard.specs.Records.{changes_from, records_to, values_of}
use Rattle.sim_standard.specs.Together.{merged, cycle_end_together}
use Rattle.sim_standard.specs.Cycle.{cycle_end, ended, next_updated}
use Rattle.sim_standard.specs.Midway.{updated_in}
use Rattle.sim_standard.proofs.Midway.{carried_on, next_carried_on, one_more}
use Rattle.sim_standard.proofs.Records.{length-records_to, one-recorded}
use Rattle.sim_store_simulation.specs.Simulation.{Simulation, ArePostponedNext, AreParted, IsStateOf, IsComplete, IsExecuted, IsResult, IsDue, IsMissing, IsOwn}
use Rattle.sim_store_simulation.specs.Simulation.{cleared, after, in_postponed_phase, is_before, is_due, is_left, is_of_phase, kept_or, next_after, or_first}
use Rattle.sim_store_simulation.specs.Simulation.{IsUpcoming, pending_from, upcoming_of}
use Rattle.sim_store_simulation.specs.Simulation.{reached, those_in, updated_last, with_one}
use Rattle.sim_store_simulation.specs.declared.phase.Phase.{Phase}
use Rattle.sim_store_simulation.specs.declared.phase.Phase.TheVariants as phase
use Rattle.sim_store_simulation.proofs.Phases.{before-all, last-owned, last-waiting, none-waits, not-before, phase_end, upcoming-is}
use Rattle.sim_store_simulation.proofs.Phases.{first_together, following_of, is_delta_at, next_cycle_time, waiting_now}
use Rattle.sim_standard.proofs.Numbers.{counted-none, counted-same, ranged}
use Rattle.std.proofs.Math.Decide.{dec_lt}
use Rattle.std.proofs.lemmas.List.{get_or_past}
use Rattle.sim_standard.proofs.Together.{also, length-merged, merged-same, merged-none, merged-out, merged-also}
use Rattle.sim_standard.proofs.Parallel.{FitsCycles, length-nets_updated, merged-below, in_turn_is_together, updated_all, updated_fits}
use Rattle.sim_standard.proofs.Parallel.{executed_delta, executed_nets, executed_time}
use Rattle.sim_store_simulation.proofs.Readiness.{ready_after}

abbrev results : Simulation → ℕ → Owned
results h q = owned_after (process_at h.design.processes q) (part (process_at h.design.processes q) q (reached h))

-- the state after the update of the last of a number of cycles
abbrev pub state_of : Design → ℕ → State
state_of d k = or_first d (updated_in d k)

-- the delta number of a cycle at a time after one at another
abbrev next_delta : ℕ → ℕ → ℕ → ℕ
next_delta time last delta = if time == last then delta + 1 else 0

-- at first there is one record
pub first-records : (d : Design) → records_to d 0 ≡ record { time = 0; delta = 0; changes = values_of (first_state d).nets } ∷ []
unfolding records_to
first-records d = refl

pub one-marked : (marks : List Bool) (n k : ℕ) → n < length marks → (eqb n k || get_or marks k false) ≡ get_or (set marks n true) k false
one-marked marks n k lt = go (eqb n k) refl
  where
    go : (b : Bool) → eqb n k ≡ b → (b || get_or marks k false) ≡ get_or (set marks n true) k false
    go true e =
        let at : n ≡ k = grind (arith, nat_tests) in
        sym (subst (λ (m : ℕ). get_or (set marks n true) m false ≡ true) at (get_or-set_same marks n true false lt))
    go false e =
        let apart : k ≢ n = grind (arith, nat_tests) in
        sym (get_or-set_other marks n k true false apart)

module _ {h : Simulation} {time delta : ℕ} {held : FlatState} {due waiting : List Bool}
    (i : IsStateOf h time delta held due waiting) where
  -- the state at the end of the cycle, and what follows it
  ended-here : ended h.design h.cycles ≡ Some (cycle_end h.design h.cycles (updated_last h))
  ended-here = carried_on h.design h.cycles ∙ ap (option_map (cycle_end h.design h.cycles)) i.there

  pub next-here : next_after h ≡ Some (following h.design h.cycles (updated_last h))
  next-here = next_carried_on h.design h.cycles ∙ ap (option_map (following h.design h.cycles)) i.there

  -- each process owns something
  pub updated-all : length (updated_last h).owned ≡ length h.design.processes
  updated-all = subst (λ (o : Option State). all o) i.there (updated_all h.design i.processes h.cycles)
    where
      all : Option State → Type 0
      all None = Unit {0}
      all (Some s) = length s.owned ≡ length h.design.processes

  pub reached-all : length (reached h).owned ≡ length h.design.processes
  reached-all = before-all h.phase h.design h.cycles (updated_last h) updated-all

  reached-fits : FitsCycles h.design h.cycles (Some (updated_last h))
  reached-fits = subst (FitsCycles h.design h.cycles) i.there (updated_fits h.design i.processes h.cycles)

  pub net-count : length held.nets ≡ length h.design.nets
  net-count = ap length i.nets_are ∙ reached-fits.0

  -- there are no more delta cycles than cycles
  pub slow : delta ≤ h.cycles
  slow = subst (λ (n : ℕ). n ≤ h.cycles) (sym i.delta_is) reached-fits.1

  -- there is a record of the initialization and one of each cycle
  pub record-count : length (records_to h.design h.cycles) ≡ suc h.cycles
  record-count = length-records_to h.design h.cycles (cycle_end h.design h.cycles (updated_last h)) ended-here

  pub held-count : length held.owned ≡ length h.design.processes
  held-count = ap length i.owned_are ∙ (length-merged (those_in h.deposited) (results h) 0 (reached h).owned ∙ reached-all)

  -- a process that has not been executed owns what it owned after the update
  pub still-owned : (p : ℕ) → those_in h.deposited p ≡ false → owned_at held.owned p ≡ owned_at (reached h).owned p
  still-owned p out =
      ap (λ (os : List Owned). owned_at os p) i.owned_are ∙ merged-out (those_in h.deposited) (results h) 0 p p (reached h).owned (omega arith) out

  -- one more process has been executed
  pub deposited-keeps : (p : ℕ) (own : Owned) (held' : FlatState) → IsResult h p own → IsReady (process_at h.design.processes p).body time own
      → held' ≡ record { sources = held.sources; nets = held.nets; owned = set held.owned p own }
      → IsStateOf (record h { deposited = set h.deposited p true }) time delta held' due waiting
  deposited-keeps p own held' r is_ready e =
      let f = those_in h.deposited in
      let lt : p < length h.deposited = omega (arith, i.sized, r.number) in
      let a : set held.owned p own ≡ set (merged f (results h) 0 (reached h).owned) p (results h p) =
      ap (λ w. set w p own) i.owned_are ∙ ap (set (merged f (results h) 0 (reached h).owned) p) r.result in
      let b : set (merged f (results h) 0 (reached h).owned) p (results h p) ≡ merged (also p f) (results h) 0 (reached h).owned =
      merged-also f (results h) 0 p p (reached h).owned (omega arith) in
      let m : merged (also p f) (results h) 0 (reached h).owned ≡ merged (those_in (set h.deposited p true)) (results h) 0 (reached h).owned =
      merged-same (also p f) (those_in (set h.deposited p true)) (results h) 0 (reached h).owned (λ k l. one-marked h.deposited p k lt) in
      record {
        there = i.there;
        phased = i.phased;
        time_is = i.time_is;
        delta_is = i.delta_is;
        early = i.early;
        sources_are = ap (λ (w : FlatState). w.sources) e ∙ i.sources_are;
        nets_are = ap (λ (w : FlatState). w.nets) e ∙ i.nets_are;
        owned_are = ap (λ (w : FlatState). w.owned) e ∙ (a ∙ (b ∙ m));
        sized = length-set h.deposited p true ∙ i.sized;
        due_sized = i.due_sized;
        waiting_sized = i.waiting_sized;
        few = i.few;
        processes = i.processes;
        due_are = i.due_are;
        waiting_are = i.waiting_are;
        ran = λ q w. still q (eqb p q) refl (one-marked h.deposited p q lt ∙ w);
        ready = λ q l. now q l (eqb p q) refl;
      }
    where
      before : ℕ → Bool
      before = is_before h.phase h.design h.cycles (updated_last h)

      still : (q : ℕ) (b : Bool) → eqb p q ≡ b → (eqb p q || those_in h.deposited q) ≡ true → is_due h q ≡ true
      still q true t w = let at : p ≡ q = grind (arith, nat_tests) in subst (λ (m : ℕ). is_due h m ≡ true) at r.resumed
      still q false t w = i.ran q (rw t at w)

      now : (q : ℕ) → q < length h.design.processes → (b : Bool) → eqb p q ≡ b
          → IsReady (process_at h.design.processes q).body (if those_in (set h.deposited p true) q || before q then time else suc time)
          (owned_at held'.owned q)
      now q l true t =
          let at : p ≡ q = grind (arith, nat_tests) in
          let lt : p < length h.deposited = omega (arith, i.sized, r.number) in
          let there : p < length held.owned = omega (arith, held-count, r.number) in
          let mark : those_in (set h.deposited p true) p ≡ true = get_or-set_same h.deposited p true false lt in
          let mine : owned_at held'.owned p ≡ own = ap (λ (w : FlatState). owned_at w.owned p) e ∙ get_or-set_same held.owned p own nothing_owned there in
          subst (λ (m : ℕ). IsReady (process_at h.design.processes m).body (if those_in (set h.deposited p true) m || before m then time else suc time)
          (owned_at held'.owned m)) at
          (rw (mark, mine) is_ready)
      now q l false t =
          let apart : q ≢ p = grind (arith, nat_tests) in
          let mark : those_in (set h.deposited p true) q ≡ those_in h.deposited q = get_or-set_other h.deposited p q true false apart in
          let mine : owned_at held'.owned q ≡ owned_at held.owned q =
          ap (λ (w : FlatState). owned_at w.owned q) e ∙ get_or-set_other held.owned p q own nothing_owned apart in
          rw (mark, mine) (i.ready q l)

both : (b c : Bool) → (b ≡ true → c ≡ true) → (c ≡ true → b ≡ true) → b ≡ c
both true true f g = refl
both true false f g = sym (f refl)
both false true f g = g refl
both false false f g = refl

none-in : (marks : List Bool) (p : ℕ) → those_in (cleared marks) p ≡ false
none-in [] p = refl
none-in (b ∷ bs) zero = refl
none-in (b ∷ bs) (suc p) = none-in bs p

-- so no process is in a set that was emptied
none-marked-now : (marks : List Bool) → replicate (length marks) false ≡ cleared marks
none-marked-now [] = refl
none-marked-now (b ∷ bs) = ap (λ w. false ∷ w) (none-marked-now bs)

module _ {h : Simulation} {time delta : ℕ} {held : FlatState} {due waiting : List Bool}
    (i : IsStateOf h time delta held due waiting) where
  pub none-marked-for : (marks : List Bool) → length marks ≡ length h.design.processes → replicate (length marks) false ≡ cleared h.deposited
  none-marked-for marks sized = ap (λ (n : ℕ). replicate n false) (sized ∙ sym i.sized) ∙ none-marked-now h.deposited

later-resumed : (d : Design) (k p : ℕ) (s : State) → is_resumed d (suc k) s p ≡ has_event_in s.nets (process_at d.processes p).sensitivity
later-resumed d k p s = let t : eqb (suc k) 0 ≡ false = grind (arith, nat_tests) in rw t refl

module _ {h : Simulation} {time delta : ℕ} {held : FlatState} {due waiting : List Bool}
    (i : IsStateOf h time delta held due waiting)
    (all : IsComplete h) where
  -- once all due processes have been executed, processes own what the phase leaves
  pub phase-complete : held.owned ≡ (phase_end h.phase h.design h.cycles (updated_last h)).owned
  phase-complete =
      i.owned_are ∙ merged-below (those_in h.deposited) (is_due h) (results h) 0 (reached h).owned
      (λ k a b. both (those_in h.deposited k) (is_due h k) (i.ran k) (all k (omega (arith, b, reached-all i))))

  -- and these are the due ones
  pub executed-are-due : h.deposited ≡ due
  executed-are-due = ext_get_or false h.deposited due (i.sized ∙ sym i.due_sized)
      (λ p lt. let there : p < length h.design.processes = omega (arith, lt, i.sized) in
      both (those_in h.deposited p) (is_due h p) (i.ran p) (all p there) ∙ sym (i.due_are p there))

  pub next-is : next_time (all_drivers held.owned) ≡ next_cycle_time (phase_end h.phase h.design h.cycles (updated_last h))
  next-is = ap (λ (os : List Owned). next_time (all_drivers os)) phase-complete

-- so if postponed processes come next, their phase begins
module _ {h : Simulation} {time delta : ℕ} {held : FlatState} {due waiting : List Bool}
    (i : IsStateOf h time delta held due waiting) (all : IsComplete h) (first : h.phase ≡ phase.NonPostponed)
    (next : ArePostponedNext h.design h.cycles (updated_last h)) where
  -- a process that has been executed was due at once
  first-marks : (p : ℕ) → p < length h.design.processes → those_in h.deposited p ≡ is_at_once h.design h.cycles (updated_last h) p
  first-marks p lt =
      both (those_in h.deposited p) (is_due h p) (i.ran p) (all p lt)
      ∙ ap (λ (f : Phase). is_of_phase f h.design h.cycles (updated_last h) p) first

  first-owned : held.owned ≡ (first_together h.design h.cycles (updated_last h)).owned
  first-owned = subst (λ (f : Phase). held.owned ≡ (phase_end f h.design h.cycles (updated_last h)).owned) first (phase-complete i all)

  pub postponed-keeps : (due' deposited' : List Bool) → length due' ≡ length waiting → ((p : ℕ) → those_in due' p ≡ those_in waiting p)
      → deposited' ≡ cleared h.deposited
      → IsStateOf (record { design = h.design; cycles = h.cycles; phase = phase.Postponed; deposited = deposited' }) time delta held due' waiting
  postponed-keeps due' deposited' es eu ep =
      let d = h.design in
      let k = h.cycles in
      let s = updated_last h in
      rw ep (record {
        there = i.there;
        phased = next;
        time_is = i.time_is;
        delta_is = i.delta_is;
        early = i.early;
        sources_are = i.sources_are;
        nets_are = i.nets_are;
        owned_are = first-owned ∙ sym (merged-none (those_in (cleared h.deposited)) (results (in_postponed_phase h)) 0 (first_together d k s).owned
            (none-in h.deposited));
        sized = length-map h.deposited (λ (b : Bool). false) ∙ i.sized;
        due_sized = es ∙ i.waiting_sized;
        waiting_sized = i.waiting_sized;
        few = i.few;
        processes = i.processes;
        due_are = λ p lt. eu p ∙ i.waiting_are p lt;
        waiting_are = i.waiting_are;
        ran = λ p e. absurd (cc (e, none-in h.deposited p));
        ready = λ p lt. rw (none-in h.deposited p) (ready p lt (those_in h.deposited p) (first-marks p lt) refl (i.ready p lt));
      })
    where
      or-none : (b c : Bool) → b ≡ c → (if b || false then time else suc time) ≡ (if c then time else suc time)
      or-none true c e = rw (sym e) refl
      or-none false c e = rw (sym e) refl

      ready : (p : ℕ) → p < length h.design.processes → (b : Bool) → b ≡ is_at_once h.design h.cycles (updated_last h) p → b ≡ those_in h.deposited p
          → IsReady (process_at h.design.processes p).body (pending_from h time p) (owned_at held.owned p)
          → IsReady (process_at h.design.processes p).body
          (if is_at_once h.design h.cycles (updated_last h) p then time else suc time) (owned_at held.owned p)
      ready p lt b e q r =
          let none : is_before h.phase h.design h.cycles (updated_last h) p ≡ false =
          ap (λ (f : Phase). is_before f h.design h.cycles (updated_last h) p) first in
          subst (λ (n : ℕ). IsReady (process_at h.design.processes p).body n (owned_at held.owned p))
          (rw none (or-none (those_in h.deposited p) (is_at_once h.design h.cycles (updated_last h) p) (sym q ∙ e))) r

module _ {h : Simulation} {time delta : ℕ} {held : FlatState} {due waiting : List Bool}
    (i : IsStateOf h time delta held due waiting) (done : IsExecuted h) where
  -- once all processes of the cycle have been executed, the state is that at the end of the cycle
  present-complete : held.owned ≡ (cycle_end_together h.design h.cycles (updated_last h)).owned
  present-complete =
      phase-complete i done.complete
      ∙ last-owned h.design i.processes h.cycles (updated_last h) (updated-all i) h.phase i.phased done.last

  in-turn : cycle_end h.design h.cycles (updated_last h) ≡ cycle_end_together h.design h.cycles (updated_last h)
  in-turn = in_turn_is_together h.design i.processes h.cycles (updated_last h) (updated-all i)

  -- the state after the next update, by the first pending time
  one-updated : updated_in h.design (suc h.cycles)
      ≡ option_map (updated h.design (cycle_end_together h.design h.cycles (updated_last h))) (next_time (all_drivers held.owned))
  one-updated =
      let d = h.design in
      let x = cycle_end_together d h.cycles (updated_last h) in
      one_more d h.cycles ∙ (ap (λ (o : Option State). next_updated d (option_map (cycle_end d h.cycles) o)) i.there
      ∙ (ap (λ (y : State). option_map (updated d y) (next_cycle_time y)) in-turn
      ∙ ap (λ (os : List Owned). option_map (updated d x) (next_time (all_drivers os))) (sym present-complete)))

  -- a cycle that follows is at the first pending time
  pub next-time-is : (t : ℕ) → next_after h ≡ Some (CycleAt t) → next_time (all_drivers held.owned) ≡ Some t
  next-time-is t e =
      ap (λ (os : List Owned). next_time (all_drivers os)) present-complete
      ∙ (ap next_cycle_time (sym in-turn)
      ∙ time_of_cycle (has_postponed_delta h.design h.cycles (updated_last h)) (next_cycle_time (cycle_end h.design h.cycles (updated_last h))) t
      (only (following h.design h.cycles (updated_last h)) (CycleAt t) (sym (next-here i) ∙ e)))
    where
      only : (a b : Following) → Some a ≡ Some b → a ≡ b
      only a b e = cc e

      time_of_cycle : (b : Bool) (o : Option ℕ) (t : ℕ) → (if b then PostponedDelta else following_of o) ≡ CycleAt t → o ≡ Some t
      time_of_cycle true o t e = absurd (cc e)
      time_of_cycle false None t e = absurd (cc e)
      time_of_cycle false (Some u) t e = cc e

  -- it is the state of the next cycle
  next-state : (t : ℕ) → next_time (all_drivers held.owned) ≡ Some t
      → state_of h.design (suc h.cycles) ≡ updated h.design (cycle_end_together h.design h.cycles (updated_last h)) t
  next-state t some =
      ap (or_first h.design) (one-updated ∙ ap (option_map (updated h.design (cycle_end_together h.design h.cycles (updated_last h)))) some)

  next-there : (t : ℕ) → next_time (all_drivers held.owned) ≡ Some t
      → updated_in h.design (suc h.cycles) ≡ Some (state_of h.design (suc h.cycles))
  next-there t some =
      one-updated ∙ (ap (option_map (updated h.design (cycle_end_together h.design h.cycles (updated_last h)))) some ∙ ap Some (sym (next-state t some)))

  -- which is at this time, and has this delta number
  pub advanced-time : (t : ℕ) → next_time (all_drivers held.owned) ≡ Some t → (state_of h.design (suc h.cycles)).time ≡ t
  advanced-time t some = ap (λ (w : State). w.time) (next-state t some)

  pub advanced-delta : (t δ : ℕ) → next_time (all_drivers held.owned) ≡ Some t → δ ≡ next_delta t time delta
      → (state_of h.design (suc h.cycles)).delta ≡ δ
  advanced-delta t δ some ed =
      let x = cycle_end_together h.design h.cycles (updated_last h) in
      let xt : (updated_last h).time ≡ x.time = sym (executed_time h.design h.cycles (updated_last h)) in
      let xd : (updated_last h).delta ≡ x.delta = sym (executed_delta h.design h.cycles (updated_last h)) in
      ap (λ (w : State). w.delta) (next-state t some)
      ∙ sym (ed ∙ (ap (λ (m : ℕ). next_delta t m delta) (i.time_is ∙ xt) ∙ ap (λ (m : ℕ). next_delta t x.time m) (i.delta_is ∙ xd)))

  pub held-is : held ≡ flat_state_of h.design (cycle_end_together h.design h.cycles (updated_last h))
  held-is =
      ap (λ (rows : List (List Source)). record { sources = rows; nets = held.nets; owned = held.owned }) i.sources_are
      ∙ (ap (λ (ns : List NetView). record { sources = sources_of h.design.nets; nets = ns; owned = held.owned }) i.nets_are
      ∙ (ap (λ (os : List Owned). record { sources = sources_of h.design.nets; nets = (updated_last h).nets; owned = os }) present-complete
      ∙ ap (λ (ns : List NetView). record {
        sources = sources_of h.design.nets;
        nets = ns;
        owned = (cycle_end_together h.design h.cycles (updated_last h)).owned;
      }) (sym (executed_nets h.design h.cycles (updated_last h)))))

  -- there are as many nets after the cycle
  pub advanced-count : (t : ℕ) (held' : FlatState)
      → ((design : Design) (s : State) → held ≡ flat_state_of design s → held' ≡ flat_state_of design (updated design s t))
      → length held'.nets ≡ length h.design.nets
  advanced-count t held' el =
      let x = cycle_end_together h.design h.cycles (updated_last h) in
      ap (λ (w : FlatState). length w.nets) (el h.design x held-is)
      ∙ length-nets_updated (all_drivers (map (own_taken t) x.owned)) h.design.nets x.nets
      (ap length (executed_nets h.design h.cycles (updated_last h) ∙ sym i.nets_are) ∙ net-count i)

  next-held : (t : ℕ) → next_time (all_drivers held.owned) ≡ Some t → (held' : FlatState)
      → ((design : Design) (s : State) → held ≡ flat_state_of design s → held' ≡ flat_state_of design (updated design s t))
      → held' ≡ flat_state_of h.design (state_of h.design (suc h.cycles))
  next-held t some held' el =
      el h.design (cycle_end_together h.design h.cycles (updated_last h)) held-is ∙ ap (flat_state_of h.design) (sym (next-state t some))

  -- the record of the next cycle
  pub advanced-recorded : (t : ℕ) → next_time (all_drivers held.owned) ≡ Some t → (δ : ℕ) (held' : FlatState) → δ ≡ next_delta t time delta
      → ((design : Design) (s : State) → held ≡ flat_state_of design s → held' ≡ flat_state_of design (updated design s t))
      → records_to h.design (suc h.cycles)
      ≡ records_to h.design h.cycles ++ record { time = t; delta = δ; changes = changes_from 0 held'.nets } ∷ []
  advanced-recorded t some δ held' ed el =
      let at = advanced-time t some in
      let of = advanced-delta t δ some ed in
      let nets = ap (λ (w : FlatState). changes_from 0 w.nets) (sym (next-held t some held' el)) in
      one-recorded h.design i.processes h.cycles (state_of h.design (suc h.cycles)) (next-there t some)
      ∙ λ j. records_to h.design h.cycles ++ record { time = at j; delta = of j; changes = nets j } ∷ []

  pub advanced-keeps : (t : ℕ) → next_time (all_drivers held.owned) ≡ Some t → t ≤ largest_time
      → (δ k : ℕ) (held' : FlatState) (postponed due' waiting' deposited' : List Bool)
      → δ ≡ next_delta t time delta
      → ((design : Design) (s : State) → held ≡ flat_state_of design s → held' ≡ flat_state_of design (updated design s t))
      → length due' ≡ length due → length waiting' ≡ length waiting
      → ((p : ℕ) → p < length h.design.processes → those_in postponed p ≡ (process_at h.design.processes p).postponed)
      → ((p : ℕ) → p < length due
      → those_in due' p ≡ (has_event_in held'.nets (process_at h.design.processes p).sensitivity && not (those_in postponed p)))
      → ((p : ℕ) → p < length due → those_in waiting' p
      ≡ (is_left h.phase (those_in waiting p) || (has_event_in held'.nets (process_at h.design.processes p).sensitivity && those_in postponed p)))
      → deposited' ≡ cleared h.deposited → k ≡ suc h.cycles
      → IsStateOf (record { design = h.design; cycles = k; phase = phase.NonPostponed; deposited = deposited' }) t δ held' due' waiting'
  advanced-keeps t some early δ k held' postponed due' waiting' deposited' ed el es ew ef eu ev ep ek =
      let d = h.design in
      let x = cycle_end_together d h.cycles (updated_last h) in
      let q = next-state t some in
      let l = next-held t some held' el in
      let n : held'.nets ≡ (state_of d (suc h.cycles)).nets = ap (λ (w : FlatState). w.nets) l in
      let o : held'.owned ≡ map (own_taken t) held.owned =
      ap (λ (w : FlatState). w.owned) (el d x held-is) ∙ ap (map (own_taken t)) (sym present-complete) in
      rw (ek, ep) (record {
        there = next-there t some;
        phased = tt;
        time_is = sym (advanced-time t some);
        delta_is = sym (advanced-delta t δ some ed);
        early = early;
        sources_are = ap (λ (w : FlatState). w.sources) l;
        nets_are = n;
        owned_are = ap (λ (w : FlatState). w.owned) l
            ∙ sym (merged-none (those_in (cleared h.deposited)) (results (after h)) 0 (state_of d (suc h.cycles)).owned (none-in h.deposited));
        sized = length-map h.deposited (λ (b : Bool). false) ∙ i.sized;
        due_sized = es ∙ i.due_sized;
        waiting_sized = ew ∙ i.waiting_sized;
        few = i.few;
        processes = i.processes;
        due_are = λ m lt. eu m (omega (arith, i.due_sized, lt)) ∙ rw (resumed_now m n, ef m lt) refl;
        waiting_are = λ m lt. ev m (omega (arith, i.due_sized, lt)) ∙ (rw (resumed_now m n, ef m lt, i.waiting_are m lt)
            (parts (process_at d.processes m).postponed (is_resumed d (suc h.cycles) (state_of d (suc h.cycles)) m)
            (is_left h.phase (is_waiting d h.cycles (updated_last h) m)) (left_postponed h.phase m))
            ∙ ap (λ (b : Bool). (process_at d.processes m).postponed && (is_resumed d (suc h.cycles) (state_of d (suc h.cycles)) m || b))
            (sym (ap (λ (w : State). is_among w.waiting m) q
            ∙ last-waiting d i.processes h.cycles (updated_last h) (updated-all i) h.phase i.phased done.last m lt)));
        ran = λ m e. absurd (cc (e, none-in h.deposited m));
        ready = λ m lt. rw (none-in h.deposited m) (ready m lt o);
      })
    where
      -- the processes sensitive to a net with an event resume
      resumed_now : (m : ℕ) → held'.nets ≡ (state_of h.design (suc h.cycles)).nets
          → has_event_in held'.nets (process_at h.design.processes m).sensitivity ≡ is_resumed h.design (suc h.cycles) (state_of h.design (suc h.cycles)) m
      resumed_now m n =
          ap (λ w. has_event_in w (process_at h.design.processes m).sensitivity) n
          ∙ sym (later-resumed h.design h.cycles m (state_of h.design (suc h.cycles)))

      left_of : (b c : Bool) → (b && c) ≡ true → b ≡ true
      left_of true c e = refl
      left_of false c e = absurd (cc e)

      -- a process that still waits is postponed
      left_postponed : (f : Phase) (m : ℕ) → is_left f (is_waiting h.design h.cycles (updated_last h) m) ≡ true
          → (process_at h.design.processes m).postponed ≡ true
      left_postponed phase.NonPostponed m e = left_of (process_at h.design.processes m).postponed _ e
      left_postponed phase.Postponed m e = absurd (cc e)

      parts : (postponed resumed left : Bool) → (left ≡ true → postponed ≡ true) → (left || (resumed && postponed)) ≡ (postponed && (resumed || left))
      parts true true true f = refl
      parts true true false f = refl
      parts true false true f = refl
      parts true false false f = refl
      parts false r true f = absurd (cc (f refl))
      parts false true false f = refl
      parts false false false f = refl

      ready : (m : ℕ) → m < length h.design.processes → held'.owned ≡ map (own_taken t) held.owned
          → IsReady (process_at h.design.processes m).body (suc t) (owned_at held'.owned m)
      ready m lt o =
          let there : m < length held.owned = omega (arith, lt, held-count i) in
          let at : owned_at held'.owned m ≡ own_taken t (owned_at held.owned m) =
          ap (λ (os : List Owned). owned_at os m) o ∙ get_or-map (own_taken t) held.owned m nothing_owned nothing_owned there in
          rw at (ready_after (process_at h.design.processes m).body (pending_from h time m) t held.owned m there some (i.ready m lt))

-- ---- handing out

module _ {h : Simulation} {time delta : ℕ} {held : FlatState} {due waiting : List Bool}
    (i : IsStateOf h time delta held due waiting) where
  -- the part of a process that has not been executed
  pub part-is : (p : ℕ) → those_in h.deposited p ≡ false → (views : List NetView) (own : Owned)
      → views ≡ map (net_at held.nets) (process_at h.design.processes p).reads → own ≡ owned_at held.owned p
      → part (process_at h.design.processes p) p (reached h) ≡ record { time = time; delta = 0; nets = views; owned = own ∷ []; waiting = [] }
  part-is p out views own ev eo =
      let v : views ≡ map (net_at (reached h).nets) (process_at h.design.processes p).reads =
      ev ∙ ap (λ (w : List NetView). map (net_at w) (process_at h.design.processes p).reads) i.nets_are in
      let o : own ≡ owned_at (reached h).owned p = eo ∙ still-owned i p out in
      rw (v, o, i.time_is) refl

  -- an execution in place leaves the result of the process
  pub executed-result : (p : ℕ) → p < length h.design.processes → is_due h p ≡ true → those_in h.deposited p ≡ false
      → IsResult h p (executed (λ object. net_at held.nets (object_net (process_at h.design.processes p) object)) time
      (process_at h.design.processes p).body.statements (owned_at held.owned p))
  executed-result p lt resumed out =
      let q = process_at h.design.processes p in
      let is : IsProcess q = All-get_or IsProcess h.design.processes p no_process lt i.processes in
      record {
        number = lt;
        resumed = resumed;
        result = rw (i.nets_are, still-owned i p out, i.time_is) (same_owned_after q p (reached h) is);
      }

-- ---- in place

sooner : (time : ℕ) (d : DriverState) → RisesFrom (suc time) d.pending → RisesFrom time d.pending
sooner time d h = go d.pending h
  where
    go : (xs : List Transaction) → RisesFrom (suc time) xs → RisesFrom time xs
    go [] h = tt
    go (x ∷ xs) h = (omega (arith, h.0), h.1)

-- what is ready for a later time is ready for this one
ready-sooner : (body : Body) (time : ℕ) (own : Owned) → IsReady body (suc time) own → IsReady body time own
ready-sooner body time own is = record {
  drivers = is.drivers;
  variables = is.variables;
  pending = All-weaker (λ (d : DriverState). RisesFrom (suc time) d.pending) (λ (d : DriverState). RisesFrom time d.pending) (sooner time) own.drivers
      is.pending;
}

module _ {h : Simulation} {time delta : ℕ} {held : FlatState} {due waiting : List Bool}
    (i : IsStateOf h time delta held due waiting)
    (p : ℕ) (lt : p < length h.design.processes) (out : those_in h.deposited p ≡ false) where
  pub ready-here : IsReady (process_at h.design.processes p).body time (owned_at held.owned p)
  ready-here =
      go (those_in h.deposited p || is_before h.phase h.design h.cycles (updated_last h) p) (i.ready p lt)
    where
      go : (b : Bool) → IsReady (process_at h.design.processes p).body (if b then time else suc time) (owned_at held.owned p)
          → IsReady (process_at h.design.processes p).body time (owned_at held.owned p)
      go true is = is
      go false is = ready-sooner (process_at h.design.processes p).body time (owned_at held.owned p) is

  -- after an execution in place, what is held is still that of the simulation
  pub executed-keeps : (process : Process) (held' : FlatState) → process ≡ process_at h.design.processes p → is_due h p ≡ true
      → held' ≡ record {
        sources = held.sources;
        nets = held.nets;
        owned = set held.owned p
            (executed (λ object. net_at held.nets (object_net process object)) time process.body.statements (owned_at held.owned p));
      }
      → IsReady process.body time (owned_at held'.owned p) → IsStateOf (with_one h p) time delta held' due waiting
  executed-keeps process held' same resumed now is =
      let q = process_at h.design.processes p in
      let own : Owned = executed (λ object. net_at held.nets (object_net q object)) time q.body.statements (owned_at held.owned p) in
      let there : p < length held.owned = omega (arith, lt, held-count i) in
      let e : held' ≡ record { sources = held.sources; nets = held.nets; owned = set held.owned p own } =
      now ∙ ap (λ (r : Process). record {
        sources = held.sources;
        nets = held.nets;
        owned = set held.owned p
            (executed (λ object. net_at held.nets (object_net r object)) time r.body.statements (owned_at held.owned p));
      }) same in
      let mine : owned_at held'.owned p ≡ own = ap (λ (w : FlatState). owned_at w.owned p) e ∙ get_or-set_same held.owned p own nothing_owned there in
      deposited-keeps i p own held' (executed-result i p lt resumed out)
      (subst (IsReady q.body time) mine (subst (λ (r : Process). IsReady r.body time (owned_at held'.owned p)) same is)) e

-- ---- jobs

module _ {h : Simulation} {time delta : ℕ} {held : FlatState} {due waiting : List Bool}
    (i : IsStateOf h time delta held due waiting) where
  -- the part of a process that has not been executed makes a job
  pub job-fits : (p : ℕ) → p < length h.design.processes → is_due h p ≡ true → those_in h.deposited p ≡ false → (views : List NetView) (own : Owned)
      → views ≡ map (net_at held.nets) (process_at h.design.processes p).reads → own ≡ owned_at held.owned p
      → IsJob time (process_at h.design.processes p) views own
  job-fits p lt due_now out views own ev eo =
      let q = process_at h.design.processes p in
      let fresh = not-before h.phase h.design h.cycles (updated_last h) p due_now in
      let from : pending_from h time p ≡ suc time = rw (out, fresh) refl in
      record {
        seen = ap length ev ∙ length-map q.reads (net_at held.nets);
        early = i.early;
        ready = rw eo (subst (λ (n : ℕ). IsReady q.body n (owned_at held.owned p)) from (i.ready p lt));
      }

-- ---- results

module _ {h : Simulation} {time delta : ℕ} {held : FlatState} {due waiting : List Bool}
    (i : IsStateOf h time delta held due waiting)
    (job : Job) (o : IsOwn h job) where
  pub own-time : job.time ≡ time
  own-time = ap (λ (s : State). s.time) o.shows ∙ sym i.time_is

  pub own-views : job.views ≡ map (net_at held.nets) (process_at h.design.processes job.number).reads
  own-views = ap (λ (s : State). s.nets) o.shows ∙ ap (λ (ns : List NetView). map (net_at ns) (process_at h.design.processes job.number).reads) (sym i.nets_are)

  pub own-owned : those_in h.deposited job.number ≡ false → job.owned ≡ owned_at held.owned job.number
  own-owned out = ap (λ (s : State). owned_at s.owned 0) o.shows ∙ sym (still-owned i job.number out)

  pub own-result : IsDue h job.number → IsResult h job.number (result_of job)
  own-result d = record {
    number = d.number;
    resumed = d.resumed;
    result = ap (λ (q : Process). owned_after q (job_state job)) o.process ∙ ap (owned_after (process_at h.design.processes job.number)) o.shows;
  }

  pub own-ready : IsReady job.process.body job.time (result_of job) → IsReady (process_at h.design.processes job.number).body time (result_of job)
  own-ready f = subst (λ (n : ℕ). IsReady (process_at h.design.processes job.number).body n (result_of job)) own-time
      (subst (λ (q : Process). IsReady q.body job.time (result_of job)) o.process f)

  -- what replaces what the process owned is its result
  pub kept-result : those_in h.deposited job.number ≡ false → (kept : Option Owned)
      → MatchOption kept (result_of job ≡ job.owned) (λ r. r ≡ result_of job) → kept_or (owned_at held.owned job.number) kept ≡ result_of job
  kept-result out None e = sym (own-owned out) ∙ sym e
  kept-result out (Some r) e = e

  -- and the current values of its drivers are as they were
  pub kept-values : IsDue h job.number → those_in h.deposited job.number ≡ false → (kept : Option Owned)
      → MatchOption kept (result_of job ≡ job.owned) (λ r. r ≡ result_of job)
      → MatchOption kept (Unit {0}) (λ r. driver_values r.drivers ≡ driver_values (owned_at held.owned job.number).drivers)
  kept-values d out None e = tt
  kept-values d out (Some r) e =
      let q = process_at h.design.processes job.number in
      let is : IsProcess q = All-get_or IsProcess h.design.processes job.number no_process d.number i.processes in
      let ran = same_owned_after q job.number (reached h) is in
      let own = owned_at (reached h).owned job.number in
      let look = λ (object : ℕ). net_at (reached h).nets (object_net q object) in
      ap (λ (w : Owned). driver_values w.drivers) (e ∙ ((own-result d).result ∙ sym ran))
      ∙ (values_kept look (reached h).time q.body.statements own
      ∙ ap (λ (w : Owned). driver_values w.drivers) (sym (still-owned i job.number out)))

  pub kept-variables : IsDue h job.number → IsReady job.process.body job.time (result_of job) → (kept : Option Owned)
      → MatchOption kept (result_of job ≡ job.owned) (λ r. r ≡ result_of job)
      → MatchOption kept (Unit {0}) (λ r. length r.variables ≡ length (owned_at held.owned job.number).variables)
  kept-variables d f None e = tt
  kept-variables d f (Some r) e =
      let x = (result_of job).variables in
      let y = (owned_at held.owned job.number).variables in
      let same : map holds_bit x ≡ map holds_bit y = (own-ready f).variables ∙ sym (i.ready job.number d.number).variables in
      ap (λ (w : Owned). length w.variables) e ∙ (sym (length-map x holds_bit) ∙ (ap length same ∙ length-map y holds_bit))

module _ {h : Simulation} {time delta : ℕ} {held : FlatState} {due waiting : List Bool}
    (i : IsStateOf h time delta held due waiting)
    (job : Job) where
  -- a job of these is the process's own
  pub fits-own : those_in h.deposited job.number ≡ false → job.time ≡ time → job.process ≡ process_at h.design.processes job.number
      → job.views ≡ map (net_at held.nets) (process_at h.design.processes job.number).reads → job.owned ≡ owned_at held.owned job.number → IsOwn h job
  fits-own out et ep ev eo = record {
    process = ep;
    shows = ap (λ (n : ℕ). record { time = n; delta = 0; nets = job.views; owned = job.owned ∷ []; waiting = [] }) et
        ∙ sym (part-is i job.number out job.views job.owned ev eo);
  }

-- ---- the start

none-in-replicate : (n p : ℕ) → those_in (replicate n false) p ≡ false
none-in-replicate zero p = refl
none-in-replicate (suc n) zero = refl
none-in-replicate (suc n) (suc p) = none-in-replicate n p

-- as many drivers stand side by side as a process has
drivers-there : (nets number first : ℕ) (all ds : List DriverOf) (ps : List Process) → drop first all ≡ ds → AreOwned nets number first ps ds
    → (m : ℕ) → m < length ps
    → length (take (process_at ps m).body.drivers (drop (process_at ps m).first_driver all)) ≡ (process_at ps m).body.drivers
drivers-there nets number first all ds [] e o m lt = absurd (omega (arith, lt))
drivers-there nets number first all ds (p ∷ ps) e o zero lt =
    let at : drop p.first_driver all ≡ ds = ap (λ (n : ℕ). drop n all) o.0 ∙ e in
    rw at (length-take-le p.body.drivers ds o.1)
drivers-there nets number first all ds (p ∷ ps) e o (suc m) lt =
    drivers-there nets (number + 1) (first + p.body.drivers) all (drop p.body.drivers ds) ps
    (sym (drop-drop p.body.drivers first all) ∙ ap (drop p.body.drivers) e) o.3 m (omega (arith, lt))

-- at first, what each process owns fits its body, and nothing is pending
pub first-ready : (d : Design) → AreOwned (length d.nets) 0 0 d.processes d.drivers → (p : ℕ) → p < length d.processes
    → IsReady (process_at d.processes p).body 1 (owned_at (first_state d).owned p)
first-ready d are p lt =
    let at : owned_at (first_state d).owned p ≡ first_owned d.drivers (process_at d.processes p) =
    get_or-map (first_owned d.drivers) d.processes p no_process nothing_owned lt in
    rw at (record {
      drivers = length-map _ _ ∙ drivers-there (length d.nets) 0 0 d.drivers d.drivers d.processes refl are p lt;
      variables = refl;
      pending = All-map (λ (w : DriverState). RisesFrom 1 w.pending) (λ (x : DriverOf). record { value = x.first; pending = [] }) _ (λ j x l. tt);
    })

-- what is held at first is that of the simulation at its start
pub begins : (d : Design) (k : ℕ) (held : FlatState) (due waiting deposited : List Bool) → length d.nets ≤ most
    → AreOwned (length d.nets) 0 0 d.processes d.drivers
    → All IsProcess d.processes → k ≡ 0
    → held ≡ flat_state_of d (first_state d) → AreParted d due waiting
    → deposited ≡ replicate (length d.processes) false
    → IsStateOf (record { design = d; cycles = k; phase = phase.NonPostponed; deposited = deposited }) 0 0 held due waiting
begins d k held due waiting deposited few are all e₀ e eu ep =
    rw (e₀, e, ep) (record {
      there = refl;
      phased = tt;
      time_is = refl;
      delta_is = refl;
      early = omega arith;
      sources_are = refl;
      nets_are = refl;
      owned_are = sym (merged-none (those_in (replicate (length d.processes) false))
          (results (record { design = d; cycles = 0; phase = phase.NonPostponed; deposited = replicate (length d.processes) false })) 0 (first_state d).owned
          (none-in-replicate (length d.processes)));
      sized = length-replicate (length d.processes) false;
      due_sized = eu.due_sized;
      waiting_sized = eu.waiting_sized;
      few = few;
      processes = all;
      due_are = eu.due_are;
      waiting_are = λ p lt. eu.waiting_are p lt ∙ sym (and_true (process_at d.processes p).postponed);
      ran = λ p w. absurd (cc (w, none-in-replicate (length d.processes) p));
      ready = λ p lt. rw (none-in-replicate (length d.processes) p) (first-ready d are p lt);
    })
  where
    and_true : (b : Bool) → (b && true) ≡ b
    and_true true = refl
    and_true false = refl

-- ---- missing processes

-- If none is missing, all due processes have been executed.
pub complete-where-none : (h : Simulation) → ((p : ℕ) → p < length h.design.processes → IsMissing h p → ⊥) → IsComplete h
complete-where-none h none p lt resumed = go (those_in h.deposited p) refl
  where
    go : (b : Bool) → those_in h.deposited p ≡ b → those_in h.deposited p ≡ true
    go true e = e
    go false e = absurd (none p lt (record { due = record { number = lt; resumed = resumed }; fresh = e }))

-- ---- waiting processes

module _ {h : Simulation} {time delta : ℕ} {held : FlatState} {due waiting : List Bool}
    (i : IsStateOf h time delta held due waiting) where
  -- if none is marked, none waits
  pub none-waiting : ((p : ℕ) → those_in waiting p ≡ false) → waiting_now h.design h.cycles (updated_last h) ≡ []
  none-waiting none =
      ranged (is_waiting h.design h.cycles (updated_last h)) 0 (length h.design.processes)
      ∙ (counted-same (is_waiting h.design h.cycles (updated_last h)) (λ p. false) 0 (length h.design.processes)
      (λ p ge lt. sym (i.waiting_are p (omega (arith, lt))) ∙ none p)
      ∙ counted-none (λ p. false) 0 (length h.design.processes) (λ p. refl))

  -- if none waits, none is marked
  pub waiting-none : waiting_now h.design h.cycles (updated_last h) ≡ [] → (p : ℕ) → those_in waiting p ≡ false
  waiting-none e p = elim (dec_lt p (length h.design.processes)) [
    | yes l ↦ i.waiting_are p l ∙ none-waits h.design i.processes h.cycles (updated_last h) (updated-all i) e p l
    | no l ↦ get_or_past waiting p false (omega (arith, l, i.waiting_sized))
  ]

  -- what comes after a phase, by what the lists say
  pub coming : IsComplete h → (next : Option ℕ) (is_delta is_empty : Bool) → next ≡ next_time (all_drivers held.owned)
      → is_delta ≡ is_delta_at h.cycles (updated_last h).time next → IsTrue is_empty ↔ ((p : ℕ) → those_in waiting p ≡ false)
      → IsUpcoming h (upcoming_of h.phase is_delta (not is_empty) next)
  coming all next is_delta is_empty en ed ee =
      rw ed (upcoming-is h i.processes (updated-all i) next (not is_empty) some none (next-here i) i.phased (sym (next-is i all) ∙ sym en))
    where
      some : not is_empty ≡ true → waiting_now h.design h.cycles (updated_last h) ≢ []
      some w e = let t : is_empty ≡ true = ee.1 (waiting-none e) in absurd (cc (sym w ∙ ap not t))

      none : not is_empty ≡ false → waiting_now h.design h.cycles (updated_last h) ≡ []
      none w = none-waiting (ee.0 (go is_empty w))
        where
          go : (b : Bool) → not b ≡ false → b ≡ true
          go true q = refl
          go false q = absurd (cc q)
