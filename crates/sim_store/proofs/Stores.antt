-- What the type of a store keeps, as its run begins and goes on.
use Rattle.std.proofs.Common.{ℕ, suc, ◌+◌, ◌-◌, ◌*◌, ◌<◌, ◌≤◌, ◌≡◌, ◌≢◌, eqb, Bool, true, false, List, Option, None, Some, MatchOption}
use Rattle.std.proofs.Common.{refl, ap, sym, subst, arith}
use Rattle.std.proofs.lemmas.Bool.Decides.{nat_tests}
use Rattle.sim_logic.specs.Time.{largest_time}
use Rattle.sim_standard.specs.Outcome.{GoesOn}
use Rattle.sim_standard.specs.Cycle.{CycleAt, Following, next_in}
use Rattle.sim_standard.specs.Midway.{updated_in}
use Rattle.sim_store.specs.declared.store.Step.{Step}
use Rattle.sim_store.specs.declared.store.Step.TheVariants as step
use Rattle.std.specs.Prelude.{IsSomeAnd, is_some}
use Rattle.sim_store_state.specs.Log.{Logged}
use Rattle.sim_store_simulation.specs.Simulation.{Simulation, IsComplete, IsExecuted, IsLogged, after, next_after, or_first, reached, with_marks}
use Rattle.sim_store_simulation.specs.declared.phase.Phase.{Phase}
use Rattle.sim_store_simulation.specs.declared.phase.Phase.TheVariants as phase
use Rattle.sim_store.specs.WaveStore.{WaveStore, IsStore, HasEnd}

-- a log of a simulation, with other processes executed or in another phase
pub logged-marked : {h : Simulation} {log : Logged} → IsLogged h log → (f : Phase) (marks : List Bool)
    → IsLogged (record { design = h.design; cycles = h.cycles; phase = f; deposited = marks }) log
logged-marked l f marks = record {
  given = l.given;
  all = l.all;
  records = l.records;
  changes = l.changes;
  begun = l.begun;
  slow = l.slow;
  last = l.last;
}

-- a run that begins
pub store-begins : (g : Simulation) (stop limit : ℕ) → stop ≤ largest_time → g.cycles ≡ 0
    → IsStore (record { simulation = g; stop = stop; limit = limit; ended = None })
store-begins g stop limit early zero = record {
  early = early;
  within = omega (arith, zero);
  until = subst (λ (n : ℕ). (or_first g.design (updated_in g.design n)).time ≤ stop) (sym zero) (omega arith);
  going = λ m lt. absurd (omega (arith, zero, lt));
  end = tt;
}

-- a run that goes on
pub store-goes-on : (w : WaveStore) (g : Simulation) (time : ℕ) → IsStore w → w.ended ≡ None → g ≡ after w.simulation
    → next_after w.simulation ≡ Some (CycleAt time) → time ≤ w.stop → w.simulation.cycles ≢ w.limit → (reached g).time ≡ time
    → IsStore (record { simulation = g; stop = w.stop; limit = w.limit; ended = w.ended })
store-goes-on w g time is running e next before apart at = record {
  early = is.early;
  within = let k : g.cycles ≡ suc w.simulation.cycles = ap (λ (h : Simulation). h.cycles) e in omega (arith, k, is.within, apart);
  until = omega (arith, at, before);
  going = λ m lt. subst (λ d. IsSomeAnd (next_in d m) (GoesOn w.stop)) (sym (ap (λ (h : Simulation). h.design) e))
      (still m (omega (arith, lt, ap (λ (h : Simulation). h.cycles) e)) (eqb m w.simulation.cycles) refl);
  end = subst (λ (o : Option Step). MatchOption o (Unit {0})
      (λ s. IsExecuted g × HasEnd (record { simulation = g; stop = w.stop; limit = w.limit; ended = w.ended }) s))
      (sym running) tt;
}
  where
    still : (m : ℕ) → m < suc w.simulation.cycles → (b : Bool) → eqb m w.simulation.cycles ≡ b → IsSomeAnd (next_in w.simulation.design m) (GoesOn w.stop)
    still m lt true q =
        let same : m ≡ w.simulation.cycles = grind (arith, nat_tests) in
        let now : IsSomeAnd (next_after w.simulation) (GoesOn w.stop) = subst (λ (o : Option Following). IsSomeAnd o (GoesOn w.stop)) (sym next) before in
        subst (λ (n : ℕ). IsSomeAnd (next_in w.simulation.design n) (GoesOn w.stop)) (sym same) now
    still m lt false q =
        let other : m ≢ w.simulation.cycles = grind (arith, nat_tests) in
        is.going m (omega (arith, lt, other))

-- a run whose processes were executed
pub store-executed : (w : WaveStore) (marks : List Bool) → IsStore w → w.ended ≡ None
    → IsStore (record { simulation = with_marks w.simulation marks; stop = w.stop; limit = w.limit; ended = w.ended })
store-executed w marks is running = record {
  early = is.early;
  within = is.within;
  until = is.until;
  going = is.going;
  end = subst (λ (o : Option Step). MatchOption o (Unit {0}) (λ s. IsExecuted (with_marks w.simulation marks)
      × HasEnd (record { simulation = with_marks w.simulation marks; stop = w.stop; limit = w.limit; ended = w.ended }) s)) (sym running) tt;
}

-- a run that has ended has executed all of its last cycle
pub ended-complete : (w : WaveStore) → IsStore w → is_some w.ended ≡ true → IsComplete w.simulation
ended-complete w is e = go w.ended e is.end
  where
    go : (o : Option Step) → is_some o ≡ true → MatchOption o (Unit {0}) (λ s. IsExecuted w.simulation × HasEnd w s) → IsComplete w.simulation
    go None e h = absurd (cc e)
    go (Some s) e h = h.0.complete

-- a run that has had as many cycles as the limit, and needs one more
pub limit-reached : (w : WaveStore) (time : ℕ) → IsStore w → w.simulation.cycles ≡ w.limit → next_after w.simulation ≡ Some (CycleAt time) → time ≤ w.stop
    → HasEnd w step.LimitReached
limit-reached w time is at next before = (at, λ m le. go m le (eqb m w.simulation.cycles) refl)
  where
    go : (m : ℕ) → m ≤ w.limit → (b : Bool) → eqb m w.simulation.cycles ≡ b → IsSomeAnd (next_in w.simulation.design m) (GoesOn w.stop)
    go m le true q =
        let same : m ≡ w.simulation.cycles = grind (arith, nat_tests) in
        let now : IsSomeAnd (next_after w.simulation) (GoesOn w.stop) = subst (λ (o : Option Following). IsSomeAnd o (GoesOn w.stop)) (sym next) before in
        subst (λ (n : ℕ). IsSomeAnd (next_in w.simulation.design n) (GoesOn w.stop)) (sym same) now
    go m le false q =
        let other : m ≢ w.simulation.cycles = grind (arith, nat_tests) in
        is.going m (omega (arith, le, at, other))

-- ---- how many steps a run may take

-- the most phases of a cycle that are left
abbrev pub phases_left : Phase → ℕ
phases_left phase.NonPostponed = 2
phases_left phase.Postponed = 1

-- the most steps that are left: two phases for each cycle up to the limit
abbrev pub steps_from : ℕ → ℕ → Phase → Option Step → ℕ
steps_from limit cycles f None = 2 * (limit - cycles) + phases_left f
steps_from limit cycles f (Some s) = 0

abbrev pub steps_left : WaveStore → ℕ
steps_left run = steps_from run.limit run.simulation.cycles run.simulation.phase run.ended
