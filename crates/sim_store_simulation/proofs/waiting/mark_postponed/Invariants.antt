use Rattle.std.proofs.Common.{ℕ, ◌≡◌, ◌<◌, length}
use Rattle.sim_standard.specs.Processes.{process_at}
use Rattle.sim_containers.specs.Numbers.{is_in}
use Rattle.sim_store_simulation.proofs.waiting.mark_postponed.Given as goal

-- those so far are marked
abbrev pub invariant-loop-number : goal.invariant-loop-number
invariant-loop-number l = record {
  sized : length l.set ≡ length l.processes;
  marked : (p : ℕ) → p < l.number → is_in l.set p ≡ (process_at l.processes p).postponed;
}
