use Rattle.std.proofs.Common.{◌≡◌, ◌++◌, drop, map}
use Rattle.std.specs.List.{concat}
use Rattle.sim_flat_design.specs.Bodies.{boolean_objects}
use Rattle.sim_flat_blocks.proofs.reads.+boolean.Given as goal

abbrev pub invariant-add_booleans-loop-each : goal.invariant-add_booleans-loop-each
invariant-add_booleans-loop-each l =
    l.found.items ++ concat (map boolean_objects (drop l.each-index l.list)) ≡ l.fn.found.items ++ concat (map boolean_objects l.list)
