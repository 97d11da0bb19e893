use Rattle.std.proofs.Common.{ℕ, ◌≡◌, ◌<◌, ◌||◌, [], length, get_or, take}
use Rattle.sim_store_nets.specs.Nets.{is_driver}
use Rattle.sim_store_nets.specs.Tallies.{is_placed, many, source_at}
use Rattle.sim_store_nets.proofs.counting.place_nets.Given as goal

abbrev pub invariant-loop-net : goal.invariant-loop-net
invariant-loop-net l = (n p d : ℕ) → d < length l.places
    → is_placed (get_or l.places d []) n p
    ≡ (is_placed (get_or l.initial.places d []) n p || is_driver (source_at (many (get_or (take l.net l.sources) n [])) p) d)
