-- Runs that have ended, and listings that were written in part.
use Rattle.std.proofs.Common.{◌≡◌, ◌∙◌, ℕ, List, Option, Result, Ok, Err, inl, inr, refl, ap, sym, subst}
use Rattle.std.specs.Prelude.{◌⊎◌, IfErr, IfOk, OnOk}
use Rattle.std.specs.Io.KnownBytes.{Appends}
use Rattle.sim_flat_design.specs.Designs.{Design}
use Rattle.sim_standard.specs.Behaviour.{behaviour_of}
use Rattle.sim_standard.specs.Cycle.{next_in}
use Rattle.sim_standard.specs.Outcome.{FinishedAfter, HasOutcome, LimitReached, Outcome, PostponedDeltaAfter}
use Rattle.sim_store.specs.WaveStore.{WaveStore, HasEnd}
use Rattle.sim_store.specs.declared.store.Step.TheVariants as step
use Rattle.sim_run_options.specs.declared.limits.Limits.{Limits}
use Rattle.sim_run_options.specs.declared.options.Options.{Options}
use Rattle.sim_run_listing.specs.Listing.{listing}
use Rattle.sim_run_listing.specs.Writing.{AppendsPart}
use Rattle.sim_run_session.specs.declared.error.RunError.{RunError}
use Rattle.sim_run_session.specs.declared.error.RunError.TheVariants as refusal
use Rattle.sim_run_session.specs.Run.{Finishes, IsCut, IsRefusalAlone, IsRunOf, Lists, ListsPart, history_of}
use Rattle.sim_run_session.specs.Simulation.{HasDesignWithin}

-- a store that is finished has the history of the run
pub finishes : (design : Design) (options : Options) (run : WaveStore) (r : Result WaveStore RunError) → IsRunOf design options run
    → IfOk r (λ s. (s ≡ run) × HasEnd run step.Finished) → IfOk r (λ s. Finishes (behaviour_of design) options (history_of s))
finishes design options run (Ok s) of (same, end) =
    let n = run.simulation.cycles in
    let next = next_in run.simulation.design in
    subst (λ (t : WaveStore). Finishes (behaviour_of design) options (history_of t)) (sym same)
    (subst (λ (d : Design). Finishes (behaviour_of d) options (history_of run)) of.of
    (record {
      cycles = n;
      outcome = subst (λ (limit : ℕ). HasOutcome next options.stop limit (FinishedAfter n)) of.limit
          (subst (λ (stop : ℕ). HasOutcome next stop run.limit (FinishedAfter n)) of.stop end);
      names = refl;
      records = refl;
    }))
finishes design options run (Err e) of h = tt

-- a store that was cut short gives the refusal of the run
module _ (design : Design) (options : Options) (run : WaveStore) (of : IsRunOf design options run) where
  abbrev IsEnd : RunError → Type 0
  IsEnd e = ((e ≡ refusal.CycleLimit run.limit) × HasEnd run step.LimitReached) ⊎ ((e ≡ refusal.PostponedDelta) × HasEnd run step.PostponedDelta)

  -- an outcome of the store is one of the run
  outcome_of : (o : Outcome) → HasOutcome (next_in run.simulation.design) run.stop run.limit o
      → HasOutcome (next_in design) options.stop options.limit o
  outcome_of o end =
      subst (λ (d : Design). HasOutcome (next_in d) options.stop options.limit o) of.of
      (subst (λ (limit : ℕ). HasOutcome (next_in run.simulation.design) options.stop limit o) of.limit
      (subst (λ (stop : ℕ). HasOutcome (next_in run.simulation.design) stop run.limit o) of.stop end))

  pub cut_short : (e : RunError) → IsEnd e → IsCut (behaviour_of design) options e
  cut_short e (inl p) = inl (p.0 ∙ ap (λ (n : ℕ). refusal.CycleLimit n) of.limit, outcome_of LimitReached p.1.1)
  cut_short e (inr p) = inr (p.0, (run.simulation.cycles, outcome_of (PostponedDeltaAfter run.simulation.cycles) p.1))

  pub refuses : (r : Result WaveStore RunError) → IfErr r IsEnd → IfErr r (IsRefusalAlone (behaviour_of design) options)
  refuses (Ok s) h = tt
  refuses (Err e) h = inr (cut_short e h)

  pub refuses_among : (r : Result WaveStore RunError) → IfErr r IsEnd
      → IfErr r (λ e. (e ≡ refusal.Stranger) ⊎ IsRefusalAlone (behaviour_of design) options e)
  refuses_among (Ok s) h = tt
  refuses_among (Err e) h = inr (inr (cut_short e h))

-- what was written is part of the run's listing
pub part_listed : (limits : Limits) (text : List ℕ) (options : Options) (run : WaveStore) (old new : Option (List ℕ))
    → HasDesignWithin limits text options (λ design. Finishes design options (history_of run))
    → AppendsPart old new (listing (history_of run).names (history_of run).records)
    → HasDesignWithin limits text options (λ design. ListsPart design options old new)
part_listed limits text options run old new d written = record {
  design = d.design;
  is_design = d.is_design;
  holds = record { history = history_of run; finishes = d.holds; written = written };
}

-- what was written is the run's listing
pub listed : (limits : Limits) (text : List ℕ) (options : Options) (run : WaveStore) (r : Result (Unit {0}) RunError) (old new : Option (List ℕ))
    → HasDesignWithin limits text options (λ design. Finishes design options (history_of run))
    → OnOk r (Appends old new (listing (history_of run).names (history_of run).records))
    → OnOk r (HasDesignWithin limits text options (λ design. Lists design options old new))
listed limits text options run (Ok done) old new d written = record {
  design = d.design;
  is_design = d.is_design;
  holds = record { history = history_of run; finishes = d.holds; written = written };
}
listed limits text options run (Err e) old new d written = tt
