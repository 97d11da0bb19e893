use Rattle.std.proofs.Common.{◌≡◌, ◌++◌, drop, map}
use Rattle.std.specs.List.{concat}
use Rattle.sim_flat_design.specs.Bodies.{conditional_objects}
use Rattle.sim_flat_blocks.proofs.reads.add_conditionals.Given as goal

abbrev pub invariant-loop-each : goal.invariant-loop-each
invariant-loop-each l =
    l.found.items ++ concat (map conditional_objects (drop l.each-index l.list)) ≡ l.fn.found.items ++ concat (map conditional_objects l.list)
