use Rattle.std.proofs.Common.{◌≡◌, take, map}
use Rattle.sim_flat_design.specs.Processes.{Process}
use Rattle.sim_store_state.proofs.start.first_variables.Given as goal

abbrev pub invariant-loop-process : goal.invariant-loop-process
invariant-loop-process l = l.rows ≡ map (λ (p : Process). p.body.variables) (take l.process-index l.processes)
