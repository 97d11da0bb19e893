use Rattle.std.proofs.Common.{◌≡◌, ◌++◌, drop}
use Rattle.sim_flat_blocks.specs.Plans.{instances_of, seen}
use Rattle.sim_flat_blocks.proofs.instances.instances.Given as goal

abbrev pub invariant-loop-each : goal.invariant-loop-each
invariant-loop-each l =
    l.found.items ++ instances_of l.library (seen l.region) (drop l.each-index l.statements) ≡ instances_of l.library (seen l.region) l.statements
