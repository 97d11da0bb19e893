-- What a run answers once its store is finished: the history copied from it, or lack of memory.
use Rattle.std.proofs.Common.{◌≡◌, true, Result, Ok, Err, sym, subst, ◌∙◌}
use Rattle.std.specs.Prelude.{IfOk, IfErr}
use Rattle.sim_store.specs.WaveStore.{WaveStore}
use Rattle.sim_standard.specs.Behaviour.{Behaviour}
use Rattle.sim_run_options.specs.declared.options.Options.{Options}
use Rattle.sim_run_options.specs.Options.{are_in_range}
use Rattle.sim_run_session.specs.declared.error.RunError.{RunError}
use Rattle.sim_run_session.specs.declared.error.RunError.TheVariants as refusal
use Rattle.sim_run_session.specs.Run.{Finishes, History, history_of}
use Rattle.sim_run.specs.Run.{IsAnswer, IsRunRefusal}

pub answered : (design : Behaviour) (options : Options) (run : WaveStore) (answer : Result History RunError)
    → are_in_range options.stop options.limit options.workers ≡ true → Finishes design options (history_of run)
    → IfOk answer (λ f. f.names ≡ (history_of run).names) → IfOk answer (λ f. f.records ≡ (history_of run).records)
    → IfErr answer (λ e. e ≡ refusal.Memory) → IsAnswer design options answer
answered design options run (Ok history) range f names records err = record {
  answered = record { cycles = f.cycles; outcome = f.outcome; names = names ∙ f.names; records = records ∙ f.records };
  ranges = (λ e. absurd cc, λ e. absurd cc);
}
answered design options run (Err e) range f names records err = record {
  answered = subst (IsRunRefusal design options) (sym err) tt;
  ranges = (λ e. absurd cc, λ e. absurd cc);
}
