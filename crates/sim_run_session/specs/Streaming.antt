-- A run whose lines are written while it goes on.
use Rattle.std.specs.Prelude.{ℕ, ◌≡◌, ◌<◌, ◌≤◌, ◌⊎◌, ◌++◌, Bool, true, false, List, Option, Result, Ok, Err, IsSomeAnd, flat_map, take}
use Rattle.std.specs.Io.KnownBytes.{Appends, Keeps}
use Rattle.sim_standard.specs.Behaviour.{Behaviour, behaviour_of}
use Rattle.sim_standard.specs.Outcome.{GoesOn, HasOutcome, LimitReached, Outcome, PostponedDeltaAfter}
use Rattle.sim_standard.specs.declared.record.Record.{Record}
use Rattle.sim_store.specs.Run.{Run, records_of}
use Rattle.sim_store.specs.WaveStore.{HasEnd, IsSameRun}
use Rattle.sim_store.specs.declared.store.Step.TheVariants as step
use Rattle.sim_run_listing.specs.Listing.{lines_of}
use Rattle.sim_run_listing.specs.ShortNames.{AreNames}
use Rattle.sim_run_options.specs.declared.limits.Limits.{Limits}
use Rattle.sim_run_options.specs.declared.options.Options.{Options}
use Rattle.sim_run_session.specs.Run.{IsCutShort, Lists, ListsPart}
use Rattle.sim_run_session.specs.Simulation.{HasDesignWithin}
use Rattle.sim_run_session.specs.declared.error.RunError.{RunError}
use Rattle.sim_run_session.specs.declared.error.RunError.TheVariants as refusal

-- ---- what is promised

-- the lines of the initialization and of the first cycles
abbrev pub lines_to : Behaviour → ℕ → List ℕ
lines_to design cycles = flat_map (lines_of design.names) (design.records cycles)

-- A run comes to this number of cycles.
pub record ComesTo (design : Behaviour) (stop limit cycles : ℕ) : Type 0 where
  pub within : cycles ≤ limit
  pub going : (m : ℕ) → m < cycles → IsSomeAnd (design.next m) (GoesOn stop)

-- Known bytes grow by the first of these.
pub record AppendsFirst (old new : Option (List ℕ)) (bytes : List ℕ) : Type 0 where
  pub written : List ℕ
  pub others : List ℕ
  pub both : written ++ others ≡ bytes
  pub appended : Appends old new written

-- The run comes to some cycle, and the first of the lines up to there were written.
pub record ListsSome (design : Behaviour) (stop limit : ℕ) (old new : Option (List ℕ)) : Type 0 where
  pub cycles : ℕ
  pub come : ComesTo design stop limit cycles
  pub written : AppendsFirst old new (lines_to design cycles)

-- The run ends in this way after so many cycles, and the lines up to there were written.
pub record ListsUpTo (design : Behaviour) (options : Options) (cycles : ℕ) (outcome : Outcome) (old new : Option (List ℕ)) : Type 0 where
  pub ends : HasOutcome design.next options.stop options.limit outcome
  pub written : Appends old new (lines_to design cycles)

-- It needs more cycles than the limit, and the lines up to the limit were written.
abbrev pub ListsToLimit : Behaviour → Options → Option (List ℕ) → Option (List ℕ) → Type 0
ListsToLimit design options old new = ListsUpTo design options options.limit LimitReached old new

-- A postponed process makes a delta cycle follow, and the lines up to there were written.
abbrev pub ListsToDelta : Behaviour → Options → Option (List ℕ) → Option (List ℕ) → Type 0
ListsToDelta design options old new = (n : ℕ) × ListsUpTo design options n (PostponedDeltaAfter n) old new

-- Memory ran out or a write failed: the first of the lines were written, or of the whole listing.
abbrev pub ListsFirst : Behaviour → Options → Option (List ℕ) → Option (List ℕ) → Type 0
ListsFirst design options old new = ListsSome design options.stop options.limit old new ⊎ ListsPart design options old new

-- What was written if memory ran out or a write failed, with lines at the end or while the run goes on.
abbrev pub IsStopped : Bool → Behaviour → Options → Option (List ℕ) → Option (List ℕ) → Type 0
IsStopped false design options old new = ListsPart design options old new
IsStopped true design options old new = ListsFirst design options old new

-- The run is cut short; nothing was written, or the lines up to there.
abbrev pub IsCutAfter : Bool → Behaviour → Options → Option (List ℕ) → Option (List ℕ) → Type 0
IsCutAfter false design options old new = IsCutShort design options × Keeps old new
IsCutAfter true design options old new = ListsToLimit design options old new ⊎ ListsToDelta design options old new

-- What the run of a text has written if it is refused for this reason.
abbrev pub HasWritten : Bool → Limits → List ℕ → Options → Option (List ℕ) → Option (List ℕ) → RunError → Type 0
HasWritten true limits text options old new (refusal.CycleLimit limit) = HasDesignWithin limits text options (λ design. ListsToLimit design options old new)
HasWritten true limits text options old new refusal.PostponedDelta = HasDesignWithin limits text options (λ design. ListsToDelta design options old new)
HasWritten true limits text options old new refusal.Memory = HasDesignWithin limits text options (λ design. ListsFirst design options old new)
HasWritten true limits text options old new refusal.Write = HasDesignWithin limits text options (λ design. ListsFirst design options old new)
HasWritten false limits text options old new refusal.Write = HasDesignWithin limits text options (λ design. ListsPart design options old new)
HasWritten _ limits text options old new _ = Keeps old new

-- What the run of a design with these options has written if it answers this.
abbrev pub IsListed : Behaviour → Options → Option (List ℕ) → Option (List ℕ) → Result (Unit {0}) RunError → Type 0
IsListed design options old new (Ok done) = Lists design options old new
IsListed design options old new (Err (refusal.CycleLimit limit)) = (limit ≡ options.limit) × ListsToLimit design options old new
IsListed design options old new (Err refusal.PostponedDelta) = ListsToDelta design options old new
IsListed design options old new (Err refusal.Memory) = ListsFirst design options old new
IsListed design options old new (Err refusal.Write) = ListsFirst design options old new
IsListed design options old new (Err _) = ⊥

-- ---- on the way

-- the lines of some records of a run
abbrev pub lines_in : Run → List Record → List ℕ
lines_in run records = flat_map (lines_of (behaviour_of run.store.simulation.design).names) records

-- The lines of all records that a run has given away were written.
abbrev pub HasListed : Run → Option (List ℕ) → Option (List ℕ) → Type 0
HasListed run old new = Appends old new (lines_in run (take run.given (records_of run)))

-- A run was cut short for this reason.
abbrev pub IsCutRun : Run → RunError → Type 0
IsCutRun run (refusal.CycleLimit limit) = (limit ≡ run.store.limit) × HasEnd run.store step.LimitReached
IsCutRun run refusal.PostponedDelta = HasEnd run.store step.PostponedDelta
IsCutRun run _ = ⊥

-- If they were before, they are now.
abbrev pub Continues : Run → Option (List ℕ) → Run → Option (List ℕ) → Type 0
Continues old before new after = (begin : Option (List ℕ)) → HasListed old begin before → HasListed new begin after

-- If they were before, the first of the lines were written now.
abbrev pub Stops : Run → Option (List ℕ) → Option (List ℕ) → Type 0
Stops run before after = (begin : Option (List ℕ)) → HasListed run begin before
    → ListsSome (behaviour_of run.store.simulation.design) run.store.stop run.store.limit begin after

-- A run has gone on, and no record was given away.
pub record HasGoneOn (old new : Run) : Type 0 where
  pub same : IsSameRun old.store new.store
  pub given : new.given ≡ old.given
  pub listed : (written : Option (List ℕ)) → Continues old written new written

-- These are the short ones of the names of the run's nets.
abbrev pub AreTheirNames : Run → List (Option (List ℕ)) → Type 0
AreTheirNames run known = AreNames (behaviour_of run.store.simulation.design).names known
