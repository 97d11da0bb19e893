use Rattle.std.proofs.Common.{◌≡◌, ◌++◌, drop, map}
use Rattle.std.specs.List.{concat}
use Rattle.sim_flat_design.specs.Bodies.{logic_objects}
use Rattle.sim_flat_blocks.proofs.reads.+logic.Given as goal

abbrev pub invariant-add_logics-loop-each : goal.invariant-add_logics-loop-each
invariant-add_logics-loop-each l =
    l.found.items ++ concat (map logic_objects (drop l.each-index l.list)) ≡ l.fn.found.items ++ concat (map logic_objects l.list)
