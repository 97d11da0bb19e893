-- The store of a run: a simulation, how far it may go, and how it ended (IEEE 1076-2008, 14.7.5.1).
-- `simulate` does not rest on this file; what a store shows under a lock does.
use Rattle.std.specs.Prelude.{ℕ, suc, [], ◌≡◌, ◌≢◌, ◌<◌, ◌≤◌, List, Bool, true, false, Option, None, Some, IsSomeAnd, MatchOption, length, replicate, slice_set}
use Rattle.sim_flat_design.specs.Designs.{Design}
use Rattle.sim_logic.specs.Time.{largest_time}
use Rattle.sim_exec.specs.Jobs.{Job}
use Rattle.sim_store.specs.declared.error.StoreError.{StoreError}
use Rattle.sim_store.specs.declared.error.StoreError.TheVariants as error
use Rattle.sim_store.specs.declared.store.Step.{Step}
use Rattle.sim_store.specs.declared.store.Step.TheVariants as step
use Rattle.sim_store.specs.declared.store.Look.{Look}
use Rattle.sim_standard.specs.Records.{event_count, records_to}
use Rattle.sim_standard.specs.Cycle.{CycleAt, next_in}
use Rattle.sim_standard.specs.Midway.{updated_in}
use Rattle.sim_standard.specs.Outcome.{FinishedAfter, LimitReached, PostponedDeltaAfter, HasOutcome, GoesOn}
use Rattle.sim_store_simulation.specs.Simulation.{Simulation, ArePostponedNext, IsComplete, IsDue, IsExecuted, IsMissing, IsLeastMissing, IsOwn}
use Rattle.sim_store_simulation.specs.Simulation.{after, due_numbers}
use Rattle.sim_store_simulation.specs.Simulation.{in_postponed_phase, next_after, reached, those_in, updated_last, with_marks}
use Rattle.sim_store_simulation.specs.declared.phase.Phase.TheVariants as phase

-- A store: its simulation, the stop time, the limit of cycles, and how the run ended.
pub record WaveStore : Type 0 where
  pub simulation : Simulation
  pub stop : ℕ
  pub limit : ℕ
  pub ended : Option Step

-- The run ended in this way.
abbrev pub HasEnd : WaveStore → Step → Type 0
HasEnd w step.Next = ⊥
HasEnd w step.Postponed = ⊥
HasEnd w step.PostponedDelta = HasOutcome (next_in w.simulation.design) w.stop w.limit (PostponedDeltaAfter w.simulation.cycles)
HasEnd w step.Finished = HasOutcome (next_in w.simulation.design) w.stop w.limit (FinishedAfter w.simulation.cycles)
HasEnd w step.LimitReached = (w.simulation.cycles ≡ w.limit) × HasOutcome (next_in w.simulation.design) w.stop w.limit LimitReached

-- The run is within its bounds and was not over earlier; if it has ended, all processes of the cycle have been executed and this is its outcome.
pub record IsStore (w : WaveStore) : Type 0 where
  pub early : w.stop ≤ largest_time
  pub within : w.simulation.cycles ≤ w.limit
  pub until : (reached w.simulation).time ≤ w.stop
  pub going : (m : ℕ) → m < w.simulation.cycles → IsSomeAnd (next_in w.simulation.design m) (GoesOn w.stop)
  pub end : MatchOption w.ended (Unit {0}) (λ s. IsExecuted w.simulation × HasEnd w s)

-- The run has not ended.
abbrev pub IsOpen : WaveStore → Type 0
IsOpen w = w.ended ≡ None

-- Why a process cannot be executed.
abbrev pub IsNotMissing : Simulation → ℕ → StoreError → Type 0
IsNotMissing h p error.NotDue = IsDue h p → ⊥
IsNotMissing h p error.Twice = IsDue h p × (those_in h.deposited p ≡ true)
IsNotMissing h p _ = ⊥

-- Why there is no job for a process, in the order in which the reasons are checked.
abbrev pub IsJobRefusal : WaveStore → ℕ → StoreError → Type 0
IsJobRefusal w p error.Ended = IsOpen w → ⊥
IsJobRefusal w p error.Memory = IsOpen w × IsMissing w.simulation p
IsJobRefusal w p e = IsOpen w × IsNotMissing w.simulation p e

-- Why a result is not taken, in the order in which the reasons are checked.
abbrev pub IsDepositRefusal : WaveStore → Job → StoreError → Type 0
IsDepositRefusal w job error.Ended = IsOpen w → ⊥
IsDepositRefusal w job error.Stale = IsOpen w × (job.cycle ≢ w.simulation.cycles)
IsDepositRefusal w job error.Foreign = IsOpen w × (job.cycle ≡ w.simulation.cycles) × IsMissing w.simulation job.number × (IsOwn w.simulation job → ⊥)
IsDepositRefusal w job e = IsOpen w × (job.cycle ≡ w.simulation.cycles) × IsNotMissing w.simulation job.number e

-- The result is taken.
pub record IsTaken (w : WaveStore) (job : Job) : Type 0 where
  pub going : IsOpen w
  pub cycle : job.cycle ≡ w.simulation.cycles
  pub missing : IsMissing w.simulation job.number
  pub own : IsOwn w.simulation job

-- Why a store does not go on, in the order in which the reasons are checked.
abbrev pub IsAdvanceRefusal : WaveStore → StoreError → Type 0
IsAdvanceRefusal w error.Ended = IsOpen w → ⊥
IsAdvanceRefusal w (error.Missing process) = IsOpen w × IsLeastMissing w.simulation process
IsAdvanceRefusal w error.Memory = IsOpen w × IsComplete w.simulation
IsAdvanceRefusal w _ = ⊥

-- Why there is no store of a design.
abbrev pub IsNewRefusal : ℕ → StoreError → Type 0
IsNewRefusal stop error.StopTooLate = largest_time < stop
IsNewRefusal stop error.Memory = stop ≤ largest_time
IsNewRefusal stop _ = ⊥

-- the store of a design after its initialization
abbrev pub begun : Design → ℕ → ℕ → WaveStore
begun design stop limit = record {
  simulation = record { design = design; cycles = 0; phase = phase.NonPostponed; deposited = replicate (length design.processes) false };
  stop = stop;
  limit = limit;
  ended = None;
}

-- a store with these processes executed in this phase
abbrev pub with_deposited : WaveStore → List Bool → WaveStore
with_deposited w marks = record w { simulation = with_marks w.simulation marks }

-- a store with one more process executed
abbrev pub deposited : WaveStore → ℕ → WaveStore
deposited w p = with_deposited w (slice_set w.simulation.deposited p true)

-- a store whose run ended in this way
abbrev pub ended_as : WaveStore → Step → WaveStore
ended_as w s = record w { ended = Some s }

-- What one step leaves of an open store whose due processes have all been executed: the phase of postponed processes; or, if none needs to come or it has been,
-- one more cycle, at a time up to the stop time; or the end of the run, since a postponed process causes a delta cycle, or nothing is pending up to the stop
-- time, or the limit is reached and a further cycle would be needed. At the end of the run all else is as it was.
abbrev pub WentOn : WaveStore → WaveStore → Step → Type 0
WentOn old new step.Postponed =
    (old.simulation.phase ≡ phase.NonPostponed) × ArePostponedNext old.simulation.design old.simulation.cycles (updated_last old.simulation)
    × (new ≡ record old { simulation = in_postponed_phase old.simulation })
WentOn old new step.Next =
    (time : ℕ) × IsExecuted old.simulation × (next_after old.simulation ≡ Some (CycleAt time)) × (time ≤ old.stop) × (old.simulation.cycles < old.limit)
    × (new ≡ record old { simulation = after old.simulation })
WentOn old new step.PostponedDelta = IsExecuted old.simulation × HasEnd old step.PostponedDelta × (new ≡ ended_as old step.PostponedDelta)
WentOn old new step.Finished = IsExecuted old.simulation × HasEnd old step.Finished × (new ≡ ended_as old step.Finished)
WentOn old new step.LimitReached =
    IsExecuted old.simulation × (old.simulation.cycles ≡ old.limit) × HasEnd old step.LimitReached × (new ≡ ended_as old step.LimitReached)

-- A store went on: it had not ended, and no process was missing.
abbrev pub IsAdvanced : WaveStore → WaveStore → Step → Type 0
IsAdvanced old new s = IsOpen old × IsComplete old.simulation × WentOn old new s

-- the processes that this phase executes; none if the run has ended
abbrev pub due_of : WaveStore → List ℕ
due_of w = go w.ended
  where
    go : Option Step → List ℕ
    go None = due_numbers w.simulation
    go (Some s) = []

-- What holds of any store: the run has had no more cycles than the limit, none later than the stop time, it was not over before the last of them, and the
-- standard's cycle gives a state after that many.
pub record IsWithin (w : WaveStore) : Type 0 where
  pub cycles : w.simulation.cycles ≤ w.limit
  pub time : (reached w.simulation).time ≤ w.stop
  pub going : (m : ℕ) → m < w.simulation.cycles → IsSomeAnd (next_in w.simulation.design m) (GoesOn w.stop)
  pub there : updated_in w.simulation.design w.simulation.cycles ≡ Some (updated_last w.simulation)

-- how far it has come
abbrev pub look_of : WaveStore → Look
look_of w = record {
  records = suc w.simulation.cycles;
  time = (reached w.simulation).time;
  delta = (reached w.simulation).delta;
  events = event_count (records_to w.simulation.design w.simulation.cycles);
}

-- Why there are no records from this number on.
abbrev pub IsRecordsRefusal : WaveStore → ℕ → StoreError → Type 0
IsRecordsRefusal w n (error.Behind records) = (records ≡ suc w.simulation.cycles) × (records < n)
IsRecordsRefusal w n error.Memory = n ≤ suc w.simulation.cycles
IsRecordsRefusal w n _ = ⊥

-- These are stores of runs of the same design with the same options.
pub record IsSameRun (run other : WaveStore) : Type 0 where
  pub design : other.simulation.design ≡ run.simulation.design
  pub stop : other.stop ≡ run.stop
  pub limit : other.limit ≡ run.limit
