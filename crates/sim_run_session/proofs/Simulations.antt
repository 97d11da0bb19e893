-- From the run of a design to that of a text.
use Rattle.std.proofs.Common.{◌≡◌, ◌≢◌, ℕ, Bool, true, false, inl, inr, List, Option, None, Some, Result, Ok, Err, refl, sym, subst}
use Rattle.std.specs.Prelude.{◌↔◌, MatchResult, IfOk, IfErr, IfSome, OnErr, OnOk}
use Rattle.sim_flat_design.specs.Designs.{Design}
use Rattle.sim_store.specs.WaveStore.{WaveStore}
use Rattle.sim_standard.specs.Behaviour.{behaviour_of}
use Rattle.sim_run_session.specs.declared.error.RunError.{RunError}
use Rattle.sim_run_session.specs.declared.error.RunError.TheVariants as refusal
use Rattle.sim_run_options.specs.declared.limits.Limits.{Limits}
use Rattle.sim_run_options.specs.declared.options.Options.{Options}
use Rattle.sim_run_session.specs.Run.{Finishes, IsCut, IsRefusalAlone, history_of}
use Rattle.sim_run_session.specs.Simulation.{IsDesignWithin, HasDesignWithin, IsRefusalWithin}

stopped : (limits : Limits) (text : List ℕ) (options : Options) (design : Design) (e : RunError) → IsDesignWithin limits text options design
    → IsRefusalAlone (behaviour_of design) options e → IsRefusalWithin limits text options e
stopped limits text options design e d (inl p) =
    subst (IsRefusalWithin limits text options) (sym p) (record { design = design; is_design = d; holds = tt })
stopped limits text options design e d (inr (inl p)) =
    subst (IsRefusalWithin limits text options) (sym p.0) (refl, record { design = design; is_design = d; holds = p.1 })
stopped limits text options design e d (inr (inr p)) =
    subst (IsRefusalWithin limits text options) (sym p.0) (record { design = design; is_design = d; holds = p.1 })

module _ (limits : Limits) (text : List ℕ) (options : Options) (design : Design) where
  pub text_run : (r : Result WaveStore RunError) → IsDesignWithin limits text options design
      → IfOk r (λ run. Finishes (behaviour_of design) options (history_of run)) → IfErr r (IsRefusalAlone (behaviour_of design) options)
      → MatchResult r (λ run. HasDesignWithin limits text options (λ b. Finishes b options (history_of run))) (λ e. IsRefusalWithin limits text options e)
  text_run (Ok run) d f e = record { design = design; is_design = d; holds = f }
  text_run (Err e) d f why = stopped limits text options design e d why

  pub text_run_found : (r : Result (Option WaveStore) RunError) → IsDesignWithin limits text options design
      → IfOk r (λ found. IfSome found (λ run. Finishes (behaviour_of design) options (history_of run)))
      → IfErr r (IsCut (behaviour_of design) options)
      → MatchResult r (λ found. IfSome found (λ run. HasDesignWithin limits text options (λ b. Finishes b options (history_of run))))
      (λ e. IsRefusalWithin limits text options e)
  text_run_found (Ok None) d f e = tt
  text_run_found (Ok (Some run)) d f e = record { design = design; is_design = d; holds = f }
  text_run_found (Err e) d f why = stopped limits text options design e d (inr why)

-- A listing is refused only for a failed write.
pub write_failed : (r : Result (Unit {0}) RunError) (Why : RunError → Type 0) → IfErr r (λ e. e ≡ refusal.Write)
    → IfErr r (λ e. e ≢ refusal.Write → Why e)
write_failed (Ok done) Why is = tt
write_failed (Err e) Why is = λ other. absurd (other is)

-- what is known after a failure
pub where_failed : (r : Result (Unit {0}) RunError) (e : RunError) (P : Type 0) → OnErr r P → r ≡ Err e → P
where_failed r e P part failed = subst (λ (s : Result (Unit {0}) RunError). OnErr s P) failed part

-- if a run is not refused for its options, they are in range
pub in_range : (r : Result (Unit {0}) RunError) (b : Bool) → (r ≡ Err refusal.Options) ↔ (b ≡ false) → OnOk r (b ≡ true)
in_range (Ok done) true h = refl
in_range (Ok done) false h = let is = h.1 refl in absurd cc
in_range (Err e) b h = tt

-- so they are if it is refused for another reason
pub in_range_else : (e : RunError) (b : Bool) → (◌≡◌ {A = Result (Unit {0}) RunError} (Err e) (Err refusal.Options)) ↔ (b ≡ false)
    → e ≢ refusal.Options → b ≡ true
in_range_else e true h other = refl
in_range_else e false h other = let is = h.1 refl in absurd (other cc)
