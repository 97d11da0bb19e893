use Rattle.std.proofs.Common.{ℕ, ◌≡◌, ◌<◌, ◌==◌, ◌||◌, ◌&&◌, [], length, get_or, take}
use Rattle.sim_store_nets.specs.Nets.{is_source}
use Rattle.sim_standard.specs.Orders.{is_among}
use Rattle.sim_store_nets.proofs.wiring.add_sources.Given as goal

abbrev pub invariant-loop-source : goal.invariant-loop-source
invariant-loop-source l = (n d : ℕ) → d < length l.fan_out
    → is_among (get_or l.fan_out d []) n ≡ (is_among (get_or l.initial.fan_out d []) n || (is_source (take l.source-index l.sources) d && (l.net == n)))
