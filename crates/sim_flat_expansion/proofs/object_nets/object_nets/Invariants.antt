use Rattle.std.proofs.Common.{◌≡◌, ◌-◌, [], length}
use Rattle.sim_flat_expansion.specs.Expanding as spec
use Rattle.sim_flat_expansion.proofs.object_nets.object_nets.Given as goal

abbrev pub invariant-loop-turn : goal.invariant-loop-turn
invariant-loop-turn l =
    (spec.object_nets_expanded l.outer l.links l.count [] l.fn.nets ≡ spec.object_nets_expanded l.outer l.links (l.count - l._turn) l.object_nets l.total)
    × (length l.object_nets ≡ l._turn)
