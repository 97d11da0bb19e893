-- How far a simulation has come (IEEE 1076-2008, 14.7.5).
-- `simulate` does not rest on this file; what a store shows under a lock does.
use Rattle.std.specs.Prelude.{ℕ, suc, ◌≡◌, ◌≢◌, ◌<◌, ◌≤◌, ◌&&◌, ◌||◌, not, List, [], Bool, true, false, if◌then◌else◌, Option, None, Some, map, length}
use Rattle.std.specs.Prelude.{◌++◌, filter, replicate, slice_index_or, slice_set}
use Rattle.std.specs.List.{All, range_with_len}
use Rattle.sim_flat_design.specs.Designs.{Design, most}
use Rattle.sim_flat_design.specs.Processes.{IsProcess}
use Rattle.sim_standard.specs.State.{State, Owned, owned_at}
use Rattle.sim_standard.specs.Processes.{part, owned_after, process_at}
use Rattle.sim_logic.specs.Time.{largest_time}
use Rattle.sim_exec_statements.specs.Ready.{IsReady}
use Rattle.sim_exec.specs.Jobs.{Job, job_state}
use Rattle.sim_exec_code.specs.Codes.{Coded, AreCodesOf, FitsAll}
use Rattle.sim_standard.specs.declared.record.Record.{Record}
use Rattle.sim_store_nets.specs.Nets.{sources_of}
use Rattle.sim_store_state.specs.FlatState.{FlatState, flat_state_of}
use Rattle.sim_store_state.specs.Log.{Logged, no_past}
use Rattle.sim_store_state.specs.Sensitive.{AreSensitive}
use Rattle.sim_standard.specs.Cycle.{is_at_once, is_waiting, first_executed, is_delta_next, processes_where}
use Rattle.sim_standard.specs.Cycle.{Following, CycleAt, NothingPending, PostponedDelta, next_in}
use Rattle.sim_standard.specs.Midway.{updated_in}
use Rattle.sim_standard.specs.Initialization.{first_state}
use Rattle.sim_standard.specs.Agreement.{total_of}
use Rattle.sim_standard.specs.Together.{together}
use Rattle.sim_standard.specs.Records.{all_changes, records_to}
use Rattle.sim_store_simulation.specs.declared.phase.Phase.{Phase}
use Rattle.sim_store_simulation.specs.declared.phase.Phase.TheVariants as phase
use Rattle.sim_store_simulation.specs.declared.phase.Upcoming.{Upcoming}
use Rattle.sim_store_simulation.specs.declared.phase.Upcoming.TheVariants as upcoming

-- A simulation of a design, after a number of cycles, in a phase of the last one (or of the initialization), with these processes executed in it. All else
-- follows.
pub record Simulation : Type 0 where
  pub design : Design
  pub cycles : ℕ
  pub phase : Phase
  pub deposited : List Bool

-- whether a process is marked
abbrev pub those_in : List Bool → ℕ → Bool
those_in marks p = slice_index_or marks p false

-- this state or, without one, the first
abbrev pub or_first : Design → Option State → State
or_first design None = first_state design
or_first design (Some s) = s

-- the state after the update of the last cycle
abbrev pub updated_last : Simulation → State
updated_last h = or_first h.design (updated_in h.design h.cycles)

-- what each process owns when a phase begins
abbrev pub owned_before : Phase → Design → ℕ → State → List Owned
owned_before phase.NonPostponed design cycles s = s.owned
owned_before phase.Postponed design cycles s = (together design.processes (is_at_once design cycles s) s).owned

-- the state at the beginning of this phase
abbrev pub reached : Simulation → State
reached h = record (updated_last h) { owned = owned_before h.phase h.design h.cycles (updated_last h) }

-- the numbers of the marked processes, rising
abbrev pub listed : List Bool → List ℕ
listed marks = filter (those_in marks) (range_with_len 0 (length marks))

-- whether a phase executes a process: the first those that resumed and are not postponed, the second the postponed ones that wait (14.7.5.3 f.3, h.4)
abbrev pub is_of_phase : Phase → Design → ℕ → State → ℕ → Bool
is_of_phase phase.NonPostponed design cycles s p = is_at_once design cycles s p
is_of_phase phase.Postponed design cycles s p = is_waiting design cycles s p

-- whether this phase executes a process
abbrev pub is_due : Simulation → ℕ → Bool
is_due h p = is_of_phase h.phase h.design h.cycles (updated_last h) p

-- the processes that this phase executes, rising
abbrev pub due_numbers : Simulation → List ℕ
due_numbers h = processes_where h.design (is_due h)

-- Postponed processes are executed in this cycle: some wait, and no delta cycle follows (14.7.5.3 h).
pub record ArePostponedNext (design : Design) (cycles : ℕ) (s : State) : Type 0 where
  pub settled : is_delta_next cycles (first_executed design cycles s) ≡ false
  pub some : processes_where design (is_waiting design cycles s) ≢ []

-- A phase of postponed processes comes only if some wait and no delta cycle follows.
abbrev pub IsPhase : Phase → Design → ℕ → State → Type 0
IsPhase phase.NonPostponed design cycles s = Unit {0}
IsPhase phase.Postponed design cycles s = ArePostponedNext design cycles s

-- No other phase follows in this cycle.
abbrev pub IsLastPhase : Phase → Design → ℕ → State → Type 0
IsLastPhase phase.NonPostponed design cycles s = ArePostponedNext design cycles s → ⊥
IsLastPhase phase.Postponed design cycles s = Unit {0}

-- the state now: the executed processes own their results
abbrev pub present : Simulation → State
present h = together h.design.processes (those_in h.deposited) (reached h)

-- whether a process has been executed in this cycle before a phase begins
abbrev pub is_before : Phase → Design → ℕ → State → ℕ → Bool
is_before phase.NonPostponed design cycles s p = false
is_before phase.Postponed design cycles s p = is_at_once design cycles s p

-- from when on a process may have pending transactions: one that has been executed may have some at the present time
abbrev pub pending_from : Simulation → ℕ → ℕ → ℕ
pending_from h time p = if those_in h.deposited p || is_before h.phase h.design h.cycles (updated_last h) p then time else suc time

-- The waveform of each driver rises strictly, in the middle of a cycle too: pending times are later than the last cycle or, if the process has been executed
-- since, not earlier. What each process owns fits its body (IEEE 1076-2008, 10.5.2.2).
abbrev pub AreRising : Simulation → Type 0
AreRising h = (p : ℕ) → p < length h.design.processes
    → IsReady (process_at h.design.processes p).body (pending_from h (reached h).time p) (owned_at (present h).owned p)

-- This is what the simulation holds.
pub record IsStateOf (h : Simulation) (time delta : ℕ) (held : FlatState) (due waiting : List Bool) : Type 0 where
  pub there : updated_in h.design h.cycles ≡ Some (updated_last h)
  pub phased : IsPhase h.phase h.design h.cycles (updated_last h)
  pub time_is : time ≡ (reached h).time
  pub delta_is : delta ≡ (reached h).delta
  pub early : time ≤ largest_time
  pub sources_are : held.sources ≡ sources_of h.design.nets
  pub nets_are : held.nets ≡ (reached h).nets
  pub owned_are : held.owned ≡ (present h).owned
  pub sized : length h.deposited ≡ length h.design.processes
  pub due_sized : length due ≡ length h.design.processes
  pub waiting_sized : length waiting ≡ length h.design.processes
  pub few : length h.design.nets ≤ most
  pub processes : All IsProcess h.design.processes
  pub due_are : (p : ℕ) → p < length h.design.processes → those_in due p ≡ is_due h p
  pub waiting_are : (p : ℕ) → p < length h.design.processes → those_in waiting p ≡ is_waiting h.design h.cycles (updated_last h) p
  pub ran : (p : ℕ) → those_in h.deposited p ≡ true → is_due h p ≡ true
  pub ready : (p : ℕ) → p < length h.design.processes
      → IsReady (process_at h.design.processes p).body (pending_from h time p) (owned_at held.owned p)

-- the time and the delta number of the last cycle
abbrev pub place_of : Simulation → ℕ × ℕ
place_of h = ((reached h).time, (reached h).delta)

-- This log has the records so far, but for the first, which were given away.
pub record IsLogged (h : Simulation) (log : Logged) : Type 0 where
  pub given : List Record
  pub all : given ++ log.records ≡ records_to h.design h.cycles
  pub records : log.past.records ≡ length given
  pub changes : log.past.changes ≡ length (all_changes given)
  pub begun : log.past.records ≡ 0 → log.past ≡ no_past
  pub slow : log.past.delta ≤ log.past.records
  pub last : log.last ≡ place_of h

-- no process is marked
abbrev pub cleared : List Bool → List Bool
cleared marks = map (λ (b : Bool). false) marks

-- Each process that this phase executes has been executed.
abbrev pub IsComplete : Simulation → Type 0
IsComplete h = (p : ℕ) → p < length h.design.processes → is_due h p ≡ true → those_in h.deposited p ≡ true

-- All processes of this cycle have been executed.
pub record IsExecuted (h : Simulation) : Type 0 where
  pub complete : IsComplete h
  pub last : IsLastPhase h.phase h.design h.cycles (updated_last h)

-- whether a process that waited in a phase still waits at its end
abbrev pub is_left : Phase → Bool → Bool
is_left phase.NonPostponed waits = waits
is_left phase.Postponed waits = false

-- the simulation after one more cycle
abbrev pub after : Simulation → Simulation
after h = record { design = h.design; cycles = suc h.cycles; phase = phase.NonPostponed; deposited = cleared h.deposited }

-- the simulation in the phase of postponed processes
abbrev pub in_postponed_phase : Simulation → Simulation
in_postponed_phase h = record { design = h.design; cycles = h.cycles; phase = phase.Postponed; deposited = cleared h.deposited }

-- This is the result of a due process that has not been executed, from its part of the state.
pub record IsResult (h : Simulation) (p : ℕ) (own : Owned) : Type 0 where
  pub number : p < length h.design.processes
  pub resumed : is_due h p ≡ true
  pub result : own ≡ owned_after (process_at h.design.processes p) (part (process_at h.design.processes p) p (reached h))

-- What is compiled belongs to the design: for each net the processes sensitive to it, and for each process its code.
pub record AreCompiled (design : Design) (sensitive : List (List ℕ)) (codes : Coded) (frame : ℕ) : Type 0 where
  pub sensitive_sized : length sensitive ≡ length design.nets
  pub sensitive_are : AreSensitive design.processes sensitive
  pub codes_are : AreCodesOf design.processes codes
  pub frame_fits : FitsAll codes.codes frame

-- These are the postponed processes of the design.
pub record ArePostponed (design : Design) (postponed : List Bool) : Type 0 where
  pub sized : length postponed ≡ length design.processes
  pub are : (p : ℕ) → p < length design.processes → those_in postponed p ≡ (process_at design.processes p).postponed

-- There is one total for each net: its number of changes in the records after the first.
pub record AreTotals (nets : ℕ) (records : List Record) (totals : List ℕ) : Type 0 where
  pub sized : length totals ≡ nets
  pub counted : (n : ℕ) → n < nets → slice_index_or totals n 0 ≡ total_of records n

-- At first all processes resume: these are due, and these wait.
pub record AreParted (design : Design) (due waiting : List Bool) : Type 0 where
  pub due_sized : length due ≡ length design.processes
  pub waiting_sized : length waiting ≡ length design.processes
  pub due_are : (p : ℕ) → p < length design.processes → those_in due p ≡ not (process_at design.processes p).postponed
  pub waiting_are : (p : ℕ) → p < length design.processes → those_in waiting p ≡ (process_at design.processes p).postponed

-- What a simulation holds at first: what is compiled, the first state, each process due or waiting and none executed, and no events of any net.
pub record IsPrepared (design : Design) (sensitive : List (List ℕ)) (codes : Coded) (frame : ℕ) (held : FlatState)
    (due deposited : List Bool) (postponed waiting : List Bool) (totals : List ℕ) : Type 0 where
  pub compiled : AreCompiled design sensitive codes frame
  pub marked : ArePostponed design postponed
  pub held_is : held ≡ flat_state_of design (first_state design)
  pub parted : AreParted design due waiting
  pub deposited_is : deposited ≡ replicate (length design.processes) false
  pub totals_is : totals ≡ replicate (length design.nets) 0

-- What a simulation holds: what was compiled, the state and marks, and the totals of nets.
pub record IsSimulation (h : Simulation) (sensitive : List (List ℕ)) (codes : Coded) (frame : ℕ) (time delta : ℕ) (held : FlatState)
    (due marks postponed waiting : List Bool) (totals : List ℕ) : Type 0 where
  pub compiled : AreCompiled h.design sensitive codes frame
  pub marked : ArePostponed h.design postponed
  pub state : IsStateOf h time delta held due waiting
  pub marks_sized : length marks ≡ length h.design.processes
  pub counts : AreTotals (length h.design.nets) (records_to h.design h.cycles) totals

-- The job has the process with its number, and the part of the state that this process sees.
pub record IsOwn (h : Simulation) (job : Job) : Type 0 where
  pub process : job.process ≡ process_at h.design.processes job.number
  pub shows : job_state job ≡ part (process_at h.design.processes job.number) job.number (reached h)

-- This is the job of this process in this phase.
pub record IsJobOf (h : Simulation) (p : ℕ) (job : Job) : Type 0 where
  pub cycle : job.cycle ≡ h.cycles
  pub number : job.number ≡ p
  pub own : IsOwn h job

-- what follows the cycle, once all its processes have been executed
abbrev pub next_after : Simulation → Option Following
next_after h = next_in h.design h.cycles

-- What comes after all processes of a phase have been executed: the phase of postponed processes, or what follows the cycle.
abbrev pub IsUpcoming : Simulation → Upcoming → Type 0
IsUpcoming h upcoming.Postponed = (h.phase ≡ phase.NonPostponed) × ArePostponedNext h.design h.cycles (updated_last h)
IsUpcoming h upcoming.PostponedDelta = IsLastPhase h.phase h.design h.cycles (updated_last h) × (next_after h ≡ Some PostponedDelta)
IsUpcoming h upcoming.Nothing = IsLastPhase h.phase h.design h.cycles (updated_last h) × (next_after h ≡ Some NothingPending)
IsUpcoming h (upcoming.Cycle time) = IsLastPhase h.phase h.design h.cycles (updated_last h) × (next_after h ≡ Some (CycleAt time))

-- a cycle at this time, if there is one
abbrev pub cycle_of : Option ℕ → Upcoming
cycle_of None = upcoming.Nothing
cycle_of (Some time) = upcoming.Cycle time

-- what comes after a phase, given whether a delta cycle would follow, whether a process waits, and the first pending time
abbrev pub upcoming_of : Phase → Bool → Bool → Option ℕ → Upcoming
upcoming_of phase.NonPostponed is_delta is_waited next = if not is_delta && is_waited then upcoming.Postponed else cycle_of next
upcoming_of phase.Postponed is_delta is_waited next = if is_delta then upcoming.PostponedDelta else cycle_of next

-- This phase executes this process.
pub record IsDue (h : Simulation) (p : ℕ) : Type 0 where
  pub number : p < length h.design.processes
  pub resumed : is_due h p ≡ true

-- This phase executes this process, and has not done so yet.
pub record IsMissing (h : Simulation) (p : ℕ) : Type 0 where
  pub due : IsDue h p
  pub fresh : those_in h.deposited p ≡ false

-- It is the least such process.
pub record IsLeastMissing (h : Simulation) (p : ℕ) : Type 0 where
  pub missing : IsMissing h p
  pub least : (q : ℕ) → q < p → IsMissing h q → ⊥

-- what a process owns: its results if there are any, else what it owned
abbrev pub kept_or : Owned → Option Owned → Owned
kept_or own None = own
kept_or own (Some results) = results

-- a simulation with these processes executed in this phase
abbrev pub with_marks : Simulation → List Bool → Simulation
with_marks h marks = record { design = h.design; cycles = h.cycles; phase = h.phase; deposited = marks }

-- a simulation with one more process executed
abbrev pub with_one : Simulation → ℕ → Simulation
with_one h p = with_marks h (slice_set h.deposited p true)
