use Rattle.std.proofs.Common.{ℕ, ◌≡◌, ◌<◌, ◌==◌, ◌||◌, ◌&&◌, [], length, get_or, take}
use Rattle.sim_store_nets.specs.Nets.{is_driver}
use Rattle.sim_store_nets.specs.Tallies.{is_placed, source_at}
use Rattle.sim_store_nets.proofs.counting.place_sources.Given as goal

abbrev pub invariant-loop-place : goal.invariant-loop-place
invariant-loop-place l = (n p d : ℕ) → d < length l.places
    → is_placed (get_or l.places d []) n p
    ≡ (is_placed (get_or l.initial.places d []) n p || (is_driver (source_at (take l.place l.row) p) d && (l.net == n)))
