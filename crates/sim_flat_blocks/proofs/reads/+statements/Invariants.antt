use Rattle.std.proofs.Common.{◌≡◌, ◌++◌, drop, map}
use Rattle.std.specs.List.{concat}
use Rattle.sim_flat_design.specs.Bodies.{statement_objects}
use Rattle.sim_flat_blocks.specs.Reads.{branch_objects}
use Rattle.sim_flat_blocks.proofs.reads.+statements.Given as goal

abbrev pub invariant-add_statements-loop-each : goal.invariant-add_statements-loop-each
invariant-add_statements-loop-each l =
    l.found.items ++ concat (map statement_objects (drop l.each-index l.list)) ≡ l.fn.found.items ++ concat (map statement_objects l.list)

abbrev pub invariant-add_branches-loop-each : goal.invariant-add_branches-loop-each
invariant-add_branches-loop-each l =
    l.found.items ++ concat (map branch_objects (drop l.each-index l.list)) ≡ l.fn.found.items ++ concat (map branch_objects l.list)
