use Rattle.std.proofs.Common.{◌≡◌, ◌≤◌, take}
use Rattle.std.specs.List.{All}
use Rattle.sim_logic.specs.Time.{largest_time}
use Rattle.sim_standard.specs.Drivers.{Transaction}
use Rattle.sim_standard.specs.Expressions as values
use Rattle.sim_exec_statements.proofs.assignments.element_values.Given as goal

-- the values found are those of the elements so far, and none is beyond the largest time
abbrev pub invariant-loop-element : goal.invariant-loop-element
invariant-loop-element g l = record {
  value : l.found.items ≡ values.element_values (g.N.Nets.look l.nets) l.variables (take l.element-index l.elements);
  bound : All (λ (x : Transaction). x.0 ≤ largest_time) l.found.items;
}
