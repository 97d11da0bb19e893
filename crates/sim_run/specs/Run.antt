-- What the run of a design answers, for any number of threads.
use Rattle.std.specs.Prelude.{◌≡◌, ◌↔◌, Result, Err, MatchResult, false}
use Rattle.sim_standard.specs.Behaviour.{Behaviour}
use Rattle.sim_run_options.specs.declared.options.Options.{Options}
use Rattle.sim_run_options.specs.Options.{are_in_range}
use Rattle.sim_run_session.specs.declared.error.RunError.{RunError}
use Rattle.sim_run_session.specs.declared.error.RunError.TheVariants as refusal
use Rattle.sim_run_session.specs.Run.{Finishes, History, MakesPostponedDelta, ReachesLimit}

-- Why the run of a design has no history: an option is out of its range, it needs more cycles than the limit, a postponed process makes a delta cycle
-- follow, the store under the lock is not that of this run, or memory ran out.
abbrev pub IsRunRefusal : Behaviour → Options → RunError → Type 0
IsRunRefusal design options refusal.Options = are_in_range options.stop options.limit options.workers ≡ false
IsRunRefusal design options (refusal.CycleLimit limit) = (limit ≡ options.limit) × ReachesLimit design options
IsRunRefusal design options refusal.PostponedDelta = MakesPostponedDelta design options
IsRunRefusal design options refusal.Stranger = Unit {0}
IsRunRefusal design options refusal.Memory = Unit {0}
IsRunRefusal design options e = ⊥

-- What a run of a design answers, for any number of threads: the history of its finished run, or why it has none; and this is `Options` if, and only if,
-- an option is out of its range.
pub record IsAnswer (design : Behaviour) (options : Options) (answer : Result History RunError) : Type 0 where
  pub answered : MatchResult answer (λ history. Finishes design options history) (λ e. IsRunRefusal design options e)
  pub ranges : (answer ≡ Err refusal.Options) ↔ (are_in_range options.stop options.limit options.workers ≡ false)
