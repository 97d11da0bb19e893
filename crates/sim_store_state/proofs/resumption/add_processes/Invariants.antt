use Rattle.std.proofs.Common.{ℕ, ◌≡◌, ◌<◌, ◌||◌, [], length, get_or, take}
use Rattle.sim_standard.specs.Processes.{process_at}
use Rattle.sim_standard.specs.Orders.{is_among}
use Rattle.sim_store_state.proofs.resumption.add_processes.Given as goal

abbrev pub invariant-loop-number : goal.invariant-loop-number
invariant-loop-number l = (n p : ℕ) → n < length l.sensitive
    → is_among (get_or l.sensitive n []) p ≡ (is_among (get_or l.initial.sensitive n []) p || is_among (process_at (take l.number l.processes) p).sensitivity n)
