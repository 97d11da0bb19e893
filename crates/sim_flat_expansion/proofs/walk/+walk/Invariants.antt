use Rattle.std.proofs.Common.{◌≡◌, ◌+◌, ◌*◌, drop, []}
use Rattle.sim_flat_expansion.specs.Expanding as spec
use Rattle.sim_flat_expansion.proofs.walk.+walk.Given as goal

abbrev pub decreases-block : goal.decreases-block
decreases-block l = 5 * l.spot.levels

abbrev pub decreases-instance : goal.decreases-instance
decreases-instance l = 5 * l.spot.levels + 1

abbrev pub decreases-instances : goal.decreases-instances
decreases-instances l = 5 * l.spot.levels + 2

abbrev pub decreases-occupants : goal.decreases-occupants
decreases-occupants l = 5 * l.spot.levels + 3

abbrev pub decreases-inside : goal.decreases-inside
decreases-inside l = 5 * l.spot.levels + 4

abbrev pub invariant-instances-loop-each : goal.invariant-instances-loop-each
invariant-instances-loop-each l =
    let s = l.spot in
    let expanded = spec.instances_expanded (spec.block_expanded s.blocks.now s.levels) s.blocks.now s.outer.now s.path.now in
    expanded (drop l.each-index l.list) l.nets l.own l.flat ≡ expanded l.list [] l.fn.own l.fn.flat
