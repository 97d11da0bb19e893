-- A run of any design, given the design's behaviour.
use Rattle.std.specs.Prelude.{◌≡◌, ◌⊎◌, ℕ, List, Option}
use Rattle.sim_flat_design.specs.Designs.{Design}
use Rattle.sim_store.specs.WaveStore.{WaveStore}
use Rattle.std.specs.Io.KnownBytes.{Appends}
use Rattle.sim_standard.specs.Behaviour.{Behaviour, behaviour_of}
use Rattle.sim_standard.specs.declared.record.Record.{Record}
use Rattle.sim_standard.specs.Outcome.{FinishedAfter, LimitReached, PostponedDeltaAfter, HasOutcome}
use Rattle.sim_run_options.specs.declared.options.Options.{Options}
use Rattle.sim_run_session.specs.declared.error.RunError.{RunError}
use Rattle.sim_run_session.specs.declared.error.RunError.TheVariants as refusal
use Rattle.sim_run_listing.specs.Listing.{listing}
use Rattle.sim_run_listing.specs.Writing.{AppendsPart}

-- the names of the nets by number, and what each cycle changed, from the initialization on
pub record History : Type 0 where
  pub names : List (List ℕ)
  pub records : List Record

-- The run is finished up to the stop time and within the limit, with this history (IEEE 1076-2008, 14.7.5.1).
pub record Finishes (design : Behaviour) (options : Options) (history : History) : Type 0 where
  pub cycles : ℕ
  pub outcome : HasOutcome design.next options.stop options.limit (FinishedAfter cycles)
  pub names : history.names ≡ design.names
  pub records : history.records ≡ design.records cycles

-- The run needs more cycles than the limit.
abbrev pub ReachesLimit : Behaviour → Options → Type 0
ReachesLimit design options = HasOutcome design.next options.stop options.limit LimitReached

-- A postponed process makes a delta cycle follow (IEEE 1076-2008, 14.7.5.3 h).
abbrev pub MakesPostponedDelta : Behaviour → Options → Type 0
MakesPostponedDelta design options = (n : ℕ) × HasOutcome design.next options.stop options.limit (PostponedDeltaAfter n)

-- The run is cut short: it needs more cycles than the limit, or a postponed process makes a delta cycle follow.
abbrev pub IsCut : Behaviour → Options → RunError → Type 0
IsCut design options e =
    ((e ≡ refusal.CycleLimit options.limit) × ReachesLimit design options) ⊎ ((e ≡ refusal.PostponedDelta) × MakesPostponedDelta design options)

-- Why a run on one thread has no history: memory ran out, or it is cut short.
abbrev pub IsRefusalAlone : Behaviour → Options → RunError → Type 0
IsRefusalAlone design options e = (e ≡ refusal.Memory) ⊎ IsCut design options e

-- The run needs more cycles than the limit; or a postponed process makes a delta cycle follow.
abbrev pub IsCutShort : Behaviour → Options → Type 0
IsCutShort design options = ReachesLimit design options ⊎ MakesPostponedDelta design options

-- The run is finished, and its listing was written.
pub record Lists (design : Behaviour) (options : Options) (old new : Option (List ℕ)) : Type 0 where
  pub history : History
  pub finishes : Finishes design options history
  pub written : Appends old new (listing history.names history.records)

-- The run is finished, and a proper prefix of its listing was written.
pub record ListsPart (design : Behaviour) (options : Options) (old new : Option (List ℕ)) : Type 0 where
  pub history : History
  pub finishes : Finishes design options history
  pub written : AppendsPart old new (listing history.names history.records)

-- what a store has recorded: the names of its design, and its records up to its present cycle
abbrev pub history_of : WaveStore → History
history_of run =
    let design = behaviour_of run.simulation.design in
    record { names = design.names; records = design.records run.simulation.cycles }

-- This is the store of the run of a design with these options.
pub record IsRunOf (design : Design) (options : Options) (run : WaveStore) : Type 0 where
  pub of : run.simulation.design ≡ design
  pub stop : run.stop ≡ options.stop
  pub limit : run.limit ≡ options.limit
