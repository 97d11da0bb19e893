use Rattle.std.proofs.Common.{ℕ, ◌≡◌, ◌<◌, ◌==◌, ◌||◌, ◌&&◌, [], length, get_or, take}
use Rattle.sim_standard.specs.Orders.{is_among}
use Rattle.sim_store_state.proofs.resumption.add_process.Given as goal

abbrev pub invariant-loop-net : goal.invariant-loop-net
invariant-loop-net l = (n p : ℕ) → n < length l.sensitive
    → is_among (get_or l.sensitive n []) p ≡ (is_among (get_or l.initial.sensitive n []) p || (is_among (take l.net-index l.sensitivity) n && (l.number == p)))
