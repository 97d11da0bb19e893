-- The two phases of a cycle: the last one leaves what the cycle leaves, and what comes after a phase.
use Rattle.std.proofs.Common.{ℕ, ◌<◌, ◌≡◌, ◌≢◌, ◌==◌, ◌&&◌, ◌||◌, not, Bool, true, false, if◌then◌else◌, List, [], ◌∷◌, length}
use Rattle.std.proofs.Common.{Option, None, Some, refl, ap, sym, ◌∙◌, subst, arith}
use Rattle.std.specs.List.{All}
use Rattle.std.specs.Option.{option_eq, option_map_or}
use Rattle.sim_flat_design.specs.Designs.{Design}
use Rattle.sim_flat_design.specs.Processes.{IsProcess}
use Rattle.sim_standard.specs.Drivers.{next_time}
use Rattle.sim_standard.specs.State.{State, Owned, all_drivers}
use Rattle.sim_standard.specs.Orders.{is_among}
use Rattle.sim_standard.specs.Processes.{part, owned_after, process_at}
use Rattle.sim_standard.specs.Together.{together, cycle_end_together}
use Rattle.sim_standard.specs.Cycle.{is_at_once, is_resumed, is_waiting, first_executed, cycle_end, is_delta_next, processes_where, has_postponed_delta}
use Rattle.sim_standard.specs.Cycle.{Following, CycleAt, NothingPending, PostponedDelta, following}
use Rattle.sim_standard.proofs.Numbers.{counted-in, ranged}
use Rattle.sim_standard.proofs.Together.{length-merged, merged-none}
use Rattle.sim_standard.proofs.Parallel.{executed_time, first_is_together, in_turn_is_together, merged-below}
use Rattle.sim_store_simulation.specs.declared.phase.Phase.{Phase}
use Rattle.sim_store_simulation.specs.declared.phase.Phase.TheVariants as phase
use Rattle.sim_store_simulation.specs.Simulation.{Simulation, ArePostponedNext, IsLastPhase, IsPhase, IsUpcoming, cycle_of, is_before, is_left, is_of_phase}
use Rattle.sim_store_simulation.specs.Simulation.{next_after, owned_before, upcoming_of, updated_last}

-- ---- names for what the standard writes out

-- the state once the processes have been executed that are executed at once
abbrev pub first_together : Design → ℕ → State → State
first_together d k s = together d.processes (is_at_once d k s) s

-- the waiting processes, rising
abbrev pub waiting_now : Design → ℕ → State → List ℕ
waiting_now d k s = processes_where d (is_waiting d k s)

-- the time of the next cycle
abbrev pub next_cycle_time : State → Option ℕ
next_cycle_time s = next_time (all_drivers s.owned)

-- whether the next cycle is a delta cycle, by the time now and the next time
abbrev pub is_delta_at : ℕ → ℕ → Option ℕ → Bool
is_delta_at k now next = not (k == 0) && option_eq ◌==◌ next (Some now)

-- what follows, by the next time, if no postponed process causes a delta cycle
abbrev pub following_of : Option ℕ → Following
following_of next = option_map_or CycleAt next NothingPending

-- ---- phases

-- the state once a phase has been executed
abbrev pub phase_end : Phase → Design → ℕ → State → State
phase_end f d k s = together d.processes (is_of_phase f d k s) (record s { owned = owned_before f d k s })

-- a due process has not been executed in this cycle
pub not-before : (f : Phase) (d : Design) (k : ℕ) (s : State) (p : ℕ) → is_of_phase f d k s p ≡ true → is_before f d k s p ≡ false
not-before phase.NonPostponed d k s p e = refl
not-before phase.Postponed d k s p e = go (process_at d.processes p).postponed (is_resumed d k s p) (is_resumed d k s p || is_among s.waiting p) e
  where
    go : (b r w : Bool) → (b && w) ≡ true → (r && not b) ≡ false
    go true true w e = refl
    go true false w e = refl
    go false r w e = absurd (cc e)

-- as many own something
pub before-all : (f : Phase) (d : Design) (k : ℕ) (s : State) → length s.owned ≡ length d.processes → length (owned_before f d k s) ≡ length d.processes
before-all phase.NonPostponed d k s len = len
before-all phase.Postponed d k s len =
    length-merged (is_at_once d k s) (λ p. owned_after (process_at d.processes p) (part (process_at d.processes p) p s)) 0 s.owned ∙ len

module _ (d : Design) (is : All IsProcess d.processes) (k : ℕ) (s : State) (len : length s.owned ≡ length d.processes) where
  -- which processes wait, by the list of those that do
  waits : (p : ℕ) → p < length d.processes → is_among (waiting_now d k s) p ≡ is_waiting d k s p
  waits p lt =
      ap (λ (ps : List ℕ). is_among ps p) (ranged (is_waiting d k s) 0 (length d.processes))
      ∙ counted-in (is_waiting d k s) 0 (length d.processes) p (omega arith) (omega (arith, lt))

  pub none-waits : waiting_now d k s ≡ [] → (p : ℕ) → p < length d.processes → is_waiting d k s p ≡ false
  none-waits e p lt = sym (waits p lt) ∙ ap (λ (ps : List ℕ). is_among ps p) e

  settled-together : is_delta_next k (first_executed d k s) ≡ is_delta_next k (first_together d k s)
  settled-together = ap (is_delta_next k) (first_is_together d is k s len)

  -- if none waits, executing those that wait changes nothing
  none-executed : waiting_now d k s ≡ [] → (together d.processes (is_waiting d k s) (first_together d k s)).owned ≡ (first_together d k s).owned
  none-executed e =
      let x = first_together d k s in
      let r = λ (p : ℕ). owned_after (process_at d.processes p) (part (process_at d.processes p) p x) in
      let many : length x.owned ≡ length d.processes = before-all phase.Postponed d k s len in
      merged-below (is_waiting d k s) (λ p. false) r 0 x.owned (λ p ge lt. none-waits e p (omega (arith, lt, many)))
      ∙ merged-none (λ p. false) r 0 x.owned (λ p. refl)

  -- what the cycle leaves, by whether a delta cycle follows
  abbrev left_by : Bool → State
  left_by b =
      let x = first_together d k s in
      if b then record x { waiting = waiting_now d k s } else record (together d.processes (is_waiting d k s) x) { waiting = [] }

  left-is : (b : Bool) → is_delta_next k (first_together d k s) ≡ b → cycle_end_together d k s ≡ left_by b
  left-is b e = ap left_by e

  -- the last phase leaves what the cycle leaves
  pub last-owned : (f : Phase) → IsPhase f d k s → IsLastPhase f d k s → (phase_end f d k s).owned ≡ (cycle_end_together d k s).owned
  last-owned phase.Postponed a l =
      sym (ap (λ (y : State). y.owned) (left-is false (sym settled-together ∙ a.settled)))
  last-owned phase.NonPostponed a l = go (is_delta_next k (first_together d k s)) refl (waiting_now d k s) refl
    where
      go : (b : Bool) → is_delta_next k (first_together d k s) ≡ b → (ps : List ℕ) → waiting_now d k s ≡ ps
          → (first_together d k s).owned ≡ (cycle_end_together d k s).owned
      go true e ps q = sym (ap (λ (y : State). y.owned) (left-is true e))
      go false e [] q = sym (ap (λ (y : State). y.owned) (left-is false e) ∙ none-executed q)
      go false e (p ∷ ps) q = absurd (l (record { settled = settled-together ∙ e; some = λ n. absurd (cc (sym q ∙ n)) }))

  -- and a process that waits at its end waited before and has not been executed
  pub last-waiting : (f : Phase) → IsPhase f d k s → IsLastPhase f d k s → (p : ℕ) → p < length d.processes
      → is_among (cycle_end_together d k s).waiting p ≡ is_left f (is_waiting d k s p)
  last-waiting phase.Postponed a l p lt =
      ap (λ (y : State). is_among y.waiting p) (left-is false (sym settled-together ∙ a.settled))
  last-waiting phase.NonPostponed a l p lt = go (is_delta_next k (first_together d k s)) refl (waiting_now d k s) refl
    where
      go : (b : Bool) → is_delta_next k (first_together d k s) ≡ b → (ps : List ℕ) → waiting_now d k s ≡ ps
          → is_among (cycle_end_together d k s).waiting p ≡ is_waiting d k s p
      go true e ps q = ap (λ (y : State). is_among y.waiting p) (left-is true e) ∙ waits p lt
      go false e [] q = ap (λ (y : State). is_among y.waiting p) (left-is false e) ∙ sym (none-waits q p lt)
      go false e (q ∷ qs) r = absurd (l (record { settled = settled-together ∙ e; some = λ n. absurd (cc (sym r ∙ n)) }))

  -- ---- what follows

  -- the first pending time of what the cycle leaves is that of the last phase
  pub last-next : (f : Phase) → IsPhase f d k s → IsLastPhase f d k s → next_cycle_time (cycle_end d k s) ≡ next_cycle_time (phase_end f d k s)
  last-next f a l =
      ap next_cycle_time (in_turn_is_together d is k s len)
      ∙ ap (λ (os : List Owned). next_cycle_time (record s { owned = os })) (sym (last-owned f a l))

  -- whether a delta cycle follows what the cycle leaves
  delta-after : (f : Phase) → IsPhase f d k s → IsLastPhase f d k s → (next : Option ℕ) → next_cycle_time (phase_end f d k s) ≡ next
      → is_delta_next k (cycle_end d k s) ≡ is_delta_at k s.time next
  delta-after f a l next e =
      let at : (cycle_end d k s).time ≡ s.time = ap (λ (y : State). y.time) (in_turn_is_together d is k s len) ∙ executed_time d k s in
      ap (is_delta_at k (cycle_end d k s).time) (last-next f a l ∙ e) ∙ ap (λ (t : ℕ). is_delta_at k t next) at

  -- whether one follows what the first phase leaves
  delta-first : (next : Option ℕ) → next_cycle_time (first_together d k s) ≡ next → is_delta_next k (first_executed d k s) ≡ is_delta_at k s.time next
  delta-first next e = settled-together ∙ ap (is_delta_at k s.time) e

  -- a cycle follows, or none, if no postponed process causes a delta cycle
  follows : (f : Phase) → IsPhase f d k s → IsLastPhase f d k s → (next : Option ℕ) → next_cycle_time (phase_end f d k s) ≡ next
      → has_postponed_delta d k s ≡ false → following d k s ≡ following_of next
  follows f a l next e none = rw none (ap following_of (last-next f a l ∙ e))

and-false : (b c : Bool) → c ≡ false → (b && c) ≡ false
and-false true c e = e
and-false false c e = refl

settled-and : (b c : Bool) → b ≡ false → c ≡ true → (not b && c) ≡ true
settled-and b c e q = rw (e, q) refl

-- a cycle follows, or none
cycle-is : (h : Simulation) → IsLastPhase h.phase h.design h.cycles (updated_last h) → (next : Option ℕ) → next_after h ≡ Some (following_of next)
    → IsUpcoming h (cycle_of next)
cycle-is h l None e = (l, e)
cycle-is h l (Some time) e = (l, e)

module _ (h : Simulation) (is : All IsProcess h.design.processes) (len : length (updated_last h).owned ≡ length h.design.processes) (next : Option ℕ)
    (waited : Bool) (some : waited ≡ true → waiting_now h.design h.cycles (updated_last h) ≢ [])
    (none : waited ≡ false → waiting_now h.design h.cycles (updated_last h) ≡ [])
    (there : next_after h ≡ Some (following h.design h.cycles (updated_last h))) where
  abbrev follows_now : Bool
  follows_now = is_delta_at h.cycles (updated_last h).time next

  after-first : h.phase ≡ phase.NonPostponed → next_cycle_time (phase_end phase.NonPostponed h.design h.cycles (updated_last h)) ≡ next
      → (b : Bool) → follows_now ≡ b → (w : Bool) → waited ≡ w → IsUpcoming h (upcoming_of phase.NonPostponed b w next)
  after-first e n false q true v =
      (e, record { settled = delta-first h.design is h.cycles (updated_last h) len next n ∙ q; some = some v })
  after-first e n false q false v =
      let d = h.design in
      let k = h.cycles in
      let s = updated_last h in
      let l : IsLastPhase phase.NonPostponed d k s = λ (a : ArePostponedNext d k s). a.some (none v) in
      let still : is_delta_next k (cycle_end d k s) ≡ false = delta-after d is k s len phase.NonPostponed tt l next n ∙ q in
      cycle-is h (subst (λ (f : Phase). IsLastPhase f d k s) (sym e) l) next
      (there ∙ ap Some (follows d is k s len phase.NonPostponed tt l next n (and-false (not (is_delta_next k (first_executed d k s))) _ still)))
  after-first e n true q w v =
      let d = h.design in
      let k = h.cycles in
      let s = updated_last h in
      let delta : is_delta_next k (first_executed d k s) ≡ true = delta-first d is k s len next n ∙ q in
      let l : IsLastPhase phase.NonPostponed d k s = λ (a : ArePostponedNext d k s). absurd (cc (delta, a.settled)) in
      cycle-is h (subst (λ (f : Phase). IsLastPhase f d k s) (sym e) l) next
      (there ∙ ap Some (follows d is k s len phase.NonPostponed tt l next n (rw delta refl)))

  after-postponed : h.phase ≡ phase.Postponed → ArePostponedNext h.design h.cycles (updated_last h)
      → next_cycle_time (phase_end phase.Postponed h.design h.cycles (updated_last h)) ≡ next
      → (b : Bool) → follows_now ≡ b → IsUpcoming h (upcoming_of phase.Postponed b waited next)
  after-postponed e a n true q =
      let d = h.design in
      let k = h.cycles in
      let s = updated_last h in
      let delta : is_delta_next k (cycle_end d k s) ≡ true = delta-after d is k s len phase.Postponed a tt next n ∙ q in
      let is : has_postponed_delta d k s ≡ true =
      settled-and (is_delta_next k (first_executed d k s)) (is_delta_next k (cycle_end d k s)) a.settled delta in
      let caused : following d k s ≡ PostponedDelta = rw is refl in
      (subst (λ (f : Phase). IsLastPhase f d k s) (sym e) tt, there ∙ ap Some caused)
  after-postponed e a n false q =
      let d = h.design in
      let k = h.cycles in
      let s = updated_last h in
      let still : is_delta_next k (cycle_end d k s) ≡ false = delta-after d is k s len phase.Postponed a tt next n ∙ q in
      cycle-is h (subst (λ (f : Phase). IsLastPhase f d k s) (sym e) tt) next
      (there ∙ ap Some (follows d is k s len phase.Postponed a tt next n (and-false (not (is_delta_next k (first_executed d k s))) _ still)))

  -- what comes after a phase
  pub upcoming-is : IsPhase h.phase h.design h.cycles (updated_last h) → next_cycle_time (phase_end h.phase h.design h.cycles (updated_last h)) ≡ next
      → IsUpcoming h (upcoming_of h.phase follows_now waited next)
  upcoming-is a n = go h.phase refl a n
    where
      go : (f : Phase) → h.phase ≡ f → IsPhase f h.design h.cycles (updated_last h)
          → next_cycle_time (phase_end f h.design h.cycles (updated_last h)) ≡ next → IsUpcoming h (upcoming_of f follows_now waited next)
      go phase.NonPostponed e a n = after-first e n follows_now refl waited refl
      go phase.Postponed e a n = after-postponed e a n follows_now refl
