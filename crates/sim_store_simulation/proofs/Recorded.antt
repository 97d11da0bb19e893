-- A log goes on with a simulation: the record of the next cycle comes after those so far.
use Rattle.std.proofs.Common.{ℕ, suc, ◌+◌, ◌≤◌, ◌≡◌, ◌==◌, eqb, if◌then◌else◌, Bool, true, false, List, [], ◌∷◌, ◌++◌, Some}
use Rattle.std.proofs.Common.{refl, ap, sym, subst, ◌∙◌, arith, append_assoc}
use Rattle.std.proofs.lemmas.Bool.Decides.{nat_tests}
use Rattle.sim_flat_design.specs.Designs.{Design}
use Rattle.sim_standard.specs.declared.record.Record.{Record}
use Rattle.sim_standard.specs.Drivers.{next_time}
use Rattle.sim_standard.specs.State.{State, all_drivers}
use Rattle.sim_standard.specs.Cycle.{updated}
use Rattle.sim_standard.specs.Records.{changes_from}
use Rattle.sim_store_state.specs.FlatState.{FlatState, flat_state_of}
use Rattle.sim_store_state.specs.Log.{IsNext, IsRecorded, IsSameLog, Logged}
use Rattle.sim_store_state.specs.declared.log.Past.{Past}
use Rattle.sim_store_simulation.specs.Simulation.{IsExecuted, IsStateOf, IsLogged, Simulation, place_of}
use Rattle.sim_store_simulation.specs.declared.phase.Phase.TheVariants as phase
use Rattle.sim_store_simulation.proofs.Going.{advanced-delta, advanced-recorded, advanced-time}

-- after a record of the last cycle, that of the next one may come
pub next-placed : {h : Simulation} {time delta : ℕ} {held : FlatState} {due waiting : List Bool} (i : IsStateOf h time delta held due waiting)
    (last : ℕ × ℕ) → last ≡ place_of h → (to next : ℕ) → next ≡ (if to == time then delta + 1 else 0) → IsNext last to next
next-placed {h} {time} {delta} i last placed to next e = go (eqb to time) refl e
  where
    at : last.0 ≡ time
    at = ap (λ (p : ℕ × ℕ). p.0) placed ∙ sym i.time_is

    of : last.1 ≡ delta
    of = ap (λ (p : ℕ × ℕ). p.1) placed ∙ sym i.delta_is

    go : (b : Bool) → eqb to time ≡ b → next ≡ (if b then delta + 1 else 0) → IsNext last to next
    go true t a = record {
      time_is = λ w. let same : to ≡ time = grind (arith, nat_tests) in same ∙ sym at;
      delta_is = λ w. omega (arith, a, of);
    }
    go false t a = record { time_is = λ w. absurd (w a); delta_is = λ w. absurd (w a) }

-- a log with the same records goes as far
pub same-logged : {h : Simulation} {old new : Logged} → IsLogged h old → IsSameLog old new → IsLogged h new
same-logged l same = record {
  given = l.given;
  all = ap (λ (w : List Record). l.given ++ w) same.records ∙ l.all;
  records = ap (λ (p : Past). p.records) same.past ∙ l.records;
  changes = ap (λ (p : Past). p.changes) same.past ∙ l.changes;
  begun = λ none. same.past ∙ l.begun (sym (ap (λ (p : Past). p.records) same.past) ∙ none);
  slow = subst (λ (p : Past). p.delta ≤ p.records) (sym same.past) l.slow;
  last = same.last ∙ l.last;
}

-- with it, the log has the records so far
pub continued : {h : Simulation} {time delta : ℕ} {held : FlatState} {due waiting : List Bool} (i : IsStateOf h time delta held due waiting)
    (done : IsExecuted h) (t : ℕ) → next_time (all_drivers held.owned) ≡ Some t → (δ k : ℕ) (held' : FlatState) (deposited : List Bool)
    → δ ≡ (if t == time then delta + 1 else 0)
    → ((design : Design) (s : State) → held ≡ flat_state_of design s → held' ≡ flat_state_of design (updated design s t)) → k ≡ suc h.cycles
    → (old reserved new : Logged) → IsLogged h old → IsSameLog old reserved
    → IsRecorded reserved new (record { time = t; delta = δ; changes = changes_from 0 held'.nets })
    → IsLogged (record { design = h.design; cycles = k; phase = phase.NonPostponed; deposited = deposited }) new
continued i done t some δ k held' deposited ed el ek old reserved new l same r =
    let one : Record = record { time = t; delta = δ; changes = changes_from 0 held'.nets } in
    let past = r.past ∙ same.past in
    rw ek (record {
      given = l.given;
      all =
          ap (λ (w : List Record). l.given ++ w) (r.records ∙ ap (λ (w : List Record). w ++ one ∷ []) same.records)
          ∙ (sym (append_assoc l.given old.records (one ∷ []))
          ∙ (ap (λ (w : List Record). w ++ one ∷ []) l.all ∙ sym (advanced-recorded i done t some δ held' ed el)));
      records = ap (λ (p : Past). p.records) past ∙ l.records;
      changes = ap (λ (p : Past). p.changes) past ∙ l.changes;
      begun = λ none. past ∙ l.begun (sym (ap (λ (p : Past). p.records) past) ∙ none);
      slow = subst (λ (p : Past). p.delta ≤ p.records) (sym past) l.slow;
      last = r.last ∙ λ j. (sym (advanced-time i done t some) j, sym (advanced-delta i done t δ some ed) j);
    })
