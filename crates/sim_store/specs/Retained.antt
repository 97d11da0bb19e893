-- The rest of a simulation while a phase is handed out.
-- Implementation only: what `simulate` promises does not rest on this file.
use Rattle.std.specs.Prelude.{ℕ, ◌≡◌, List, false, length, map}
use Rattle.sim_flat_design.specs.Designs.{Design}
use Rattle.sim_standard.specs.State.{Owned, all_drivers, driver_values}
use Rattle.sim_store_nets.specs.Lists.{Lists, NetValues}
use Rattle.sim_store_nets.specs.Nets.{AreTouched, row_from, views_of}
use Rattle.sim_store.specs.declared.retained.RetainedContents.{RetainedContents}
use Rattle.sim_store.specs.Handing.{PhaseInput}
use Rattle.sim_store_simulation.specs.Contents.{executed_of}
use Rattle.sim_store_simulation.specs.Simulation.{Simulation, IsSimulation, reached, those_in}

-- the simulation of which a phase is handed out
abbrev pub retained_of : Design → PhaseInput → RetainedContents → Simulation
retained_of design f k = record {
  design = design;
  cycles = f.cycles;
  phase = f.phase;
  deposited = executed_of k.all_executed f.due k.deposited;
}

-- These belong to a state of whose processes each owns this.
pub record IsSplit (values : NetValues) (owned : List Owned) (lists : Lists) : Type 0 where
  pub nets : length values.before ≡ length values.present
  pub valued : lists.driving ≡ driver_values (all_drivers owned)
  pub resolving : values.present ≡ map (row_from lists.driving) lists.sources
  pub touching : AreTouched values.present values.before lists.touched

-- It stays of that simulation, apart from what is read and from what processes own. No process has been executed in this phase.
pub record IsRetained (design : Design) (f : PhaseInput) (k : RetainedContents) : Type 0 where
  pub fresh : (p : ℕ) → those_in (retained_of design f k).deposited p ≡ false
  pub split : IsSplit f.values (reached (retained_of design f k)).owned k.lists
  pub holds : IsSimulation (retained_of design f k) k.sensitive f.codes k.frame f.time k.delta
      (record { sources = k.lists.sources; nets = views_of f.values.present f.values.before; owned = (reached (retained_of design f k)).owned })
      f.due k.deposited k.waiting.postponed k.waiting.waiting k.totals.items
