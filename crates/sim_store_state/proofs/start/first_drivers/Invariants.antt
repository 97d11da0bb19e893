use Rattle.std.proofs.Common.{◌≡◌, take, map}
use Rattle.sim_flat_design.specs.Processes.{Process}
use Rattle.sim_standard.specs.Initialization.{first_owned}
use Rattle.sim_store_state.proofs.start.first_drivers.Given as goal

abbrev pub invariant-loop-process : goal.invariant-loop-process
invariant-loop-process l = l.rows ≡ map (λ (p : Process). (first_owned l.drivers p).drivers) (take l.process-index l.processes)
