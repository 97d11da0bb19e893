-- The processes of a phase, handed out in ranges to be executed, and the answers.
-- Implementation only: what `simulate` promises does not rest on this file.
use Rattle.std.specs.Prelude.{ℕ, ◌≡◌, ◌+◌, ◌<◌, ◌≤◌, List, [], ◌∷◌, Bool, false, map, length}
use Rattle.std.specs.List.{All, filter, range_with_len}
use Rattle.sim_logic.specs.Time.{largest_time}
use Rattle.sim_flat_design.specs.Designs.{Design}
use Rattle.sim_flat_design.specs.Processes.{IsProcess}
use Rattle.sim_standard.specs.State.{State, Owned, owned_at}
use Rattle.sim_standard.specs.Processes.{owned_after, part, process_at}
use Rattle.sim_standard.specs.Together.{together}
use Rattle.sim_exec_statements.specs.Ready.{IsReady}
use Rattle.sim_exec_code.specs.Codes.{Coded, AreCodesOf}
use Rattle.sim_store_nets.specs.Lists.{NetValues}
use Rattle.sim_store_nets.specs.Nets.{views_of}
use Rattle.sim_store_simulation.specs.declared.phase.Phase.{Phase}
use Rattle.sim_store_simulation.specs.Simulation.{Simulation, is_due, reached, those_in}
use Rattle.sim_store.specs.Run.{Run}
use Rattle.sim_store.specs.WaveStore.{WaveStore, IsOpen}

-- a simulation at the beginning of a phase, after a number of cycles
abbrev pub at_phase : Design → ℕ → Phase → Simulation
at_phase design cycles phase = record { design = design; cycles = cycles; phase = phase; deposited = [] }

-- the state once all processes of the phase have been executed
abbrev pub completed : Simulation → State
completed h = together h.design.processes (is_due h) (reached h)

-- what a process owns after it has been executed in a phase
abbrev pub result_in : Simulation → ℕ → Owned
result_in h p = owned_after (process_at h.design.processes p) (part (process_at h.design.processes p) p (reached h))

-- The input during a phase: the codes, the values of nets, the due processes, and the time.
pub record PhaseInput : Type 0 where
  pub cycles : ℕ
  pub phase : Phase
  pub time : ℕ
  pub codes : Coded
  pub values : NetValues
  pub due : List Bool

-- the simulation that it belongs to
abbrev pub at_input : Design → PhaseInput → Simulation
at_input design f = at_phase design f.cycles f.phase

-- It belongs to this design.
pub record IsPhaseInput (design own : Design) (f : PhaseInput) : Type 0 where
  pub design_is : own ≡ design
  pub processes : All IsProcess design.processes
  pub all_own : length (reached (at_input design f)).owned ≡ length design.processes
  pub codes_are : AreCodesOf design.processes f.codes
  pub nets_are : views_of f.values.present f.values.before ≡ (reached (at_input design f)).nets
  pub time_is : f.time ≡ (reached (at_input design f)).time
  pub early : f.time ≤ largest_time
  pub due_sized : length f.due ≡ length design.processes
  pub due_are : (p : ℕ) → p < length design.processes → those_in f.due p ≡ is_due (at_input design f) p

-- The processes from a number on own this, as part of what all own, and it fits their bodies.
pub record IsRange (h : Simulation) (all : List Owned) (from : ℕ) (owned : List Owned) : Type 0 where
  pub within : from + length owned ≤ length h.design.processes
  pub owned_are : (i : ℕ) → i < length owned → owned_at owned i ≡ owned_at all (from + i)
  pub ready : (i : ℕ) → i < length owned → IsReady (process_at h.design.processes (from + i)).body (reached h).time (owned_at owned i)

-- the processes of a phase among `count` from a number on, rising
abbrev pub due_from : Simulation → ℕ → ℕ → List ℕ
due_from h from count = filter (is_due h) (range_with_len from count)

-- An order or the answer to it: its cycle and phase, and what the processes from a number on own then.
pub record Range : Type 0 where
  pub cycles : ℕ
  pub phase : Phase
  pub from : ℕ
  pub owned : List Owned

-- An answer is of the phase and for the processes of an order.
pub record IsAnswer (order answer : Range) : Type 0 where
  pub cycles_are : answer.cycles ≡ order.cycles
  pub phase_is : answer.phase ≡ order.phase
  pub from_is : answer.from ≡ order.from
  pub count_is : length answer.owned ≡ length order.owned

-- the number of processes of each
abbrev pub lengths : List Range → List ℕ
lengths ranges = map (λ (r : Range). length r.owned) ranges

-- Each is of this phase after this number of cycles. The first begins with the process that has this number, and each other one where the one before it ends.
abbrev pub AreInOrder : ℕ → Phase → ℕ → List Range → Type 0
AreInOrder cycles phase from [] = Unit
AreInOrder cycles phase from (r ∷ rs) =
    (r.cycles ≡ cycles) × (r.phase ≡ phase) × (r.from ≡ from) × AreInOrder cycles phase (from + length r.owned) rs

-- They are all parts of a phase, in order, with this many processes each.
pub record AreParts (cycles : ℕ) (phase : Phase) (parts : List ℕ) (ranges : List Range) : Type 0 where
  pub counts_are : lengths ranges ≡ parts
  pub in_order : AreInOrder cycles phase 0 ranges

-- The rest of a run while a phase is handed out in parts of this many processes each.
pub record HandedOutStore : Type 0 where
  pub run : Run
  pub parts : List ℕ

-- They are all orders of the phase that was handed out, or the answers to all of them, in order.
abbrev pub AreAll : HandedOutStore → List Range → Type 0
AreAll handed_out ranges = AreParts handed_out.run.store.simulation.cycles handed_out.run.store.simulation.phase handed_out.parts ranges

-- The run has not ended, and no process has been executed in this phase.
pub record IsUntouched (w : WaveStore) : Type 0 where
  pub going : IsOpen w
  pub none : (p : ℕ) → those_in w.simulation.deposited p ≡ false
