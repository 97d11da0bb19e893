-- What a simulation holds, and how far that shows it to have come.
-- Implementation only: what `simulate` promises does not rest on this file.
use Rattle.std.specs.Prelude.{ℕ, ◌≡◌, List, Bool, true, false, filter, not}
use Rattle.sim_flat_design.specs.Designs.{Design}
use Rattle.sim_store_simulation.specs.declared.phase.Phase.TheVariants as phase
use Rattle.sim_store_simulation.specs.declared.simulation.Contents.{Contents}
use Rattle.sim_store_simulation.specs.Simulation.{Simulation, IsSimulation, IsPrepared, listed, those_in}

-- the processes executed in a phase: all due ones or else the marked ones
abbrev pub executed_of : Bool → List Bool → List Bool → List Bool
executed_of true due marks = due
executed_of false due marks = marks

-- the simulation of this design that holds this, if these processes have been executed
abbrev pub simulation_with : Design → Contents → List Bool → Simulation
simulation_with design m executed = record { design = design; cycles = m.cycles; phase = m.phase; deposited = executed }

-- the simulation of this design that holds this
abbrev pub simulation_of : Design → Contents → Simulation
simulation_of design m = simulation_with design m (executed_of m.all_executed m.due m.deposited)

-- It is what a simulation of this design holds in which these processes have been executed.
abbrev pub IsWith : Design → Contents → List Bool → Type 0
IsWith design m executed =
    IsSimulation (simulation_with design m executed) m.compiled.sensitive m.compiled.codes m.compiled.frame m.time m.delta m.state m.due
    m.deposited m.waiting.postponed m.waiting.waiting m.totals.items

-- It is what a simulation of this design holds.
abbrev pub IsOf : Design → Contents → Type 0
IsOf design m = IsWith design m (executed_of m.all_executed m.due m.deposited)

-- the due processes that are not marked, rising
abbrev pub unmarked_of : List Bool → List Bool → List ℕ
unmarked_of due marks = filter (λ (p : ℕ). not (those_in marks p)) (listed due)

-- It is at the start: there has been no cycle, and no process has been executed.
abbrev pub IsAtStart : Contents → Type 0
IsAtStart m = (m.cycles ≡ 0) × (m.time ≡ 0) × (m.delta ≡ 0) × (m.phase ≡ phase.NonPostponed) × (m.all_executed ≡ false)

-- It is what a simulation of this design holds at first.
abbrev pub AreFirst : Design → Contents → Type 0
AreFirst design m =
    IsPrepared design m.compiled.sensitive m.compiled.codes m.compiled.frame m.state m.due m.deposited m.waiting.postponed
    m.waiting.waiting m.totals.items
