use Rattle.std.proofs.Common.{◌≡◌, ◌++◌, drop}
use Rattle.sim_flat_blocks.specs.FirstValues.{value_of_each}
use Rattle.sim_flat_blocks.proofs.variables.add_each.Given as goal

abbrev pub invariant-loop-name : goal.invariant-loop-name
invariant-loop-name l =
    l.found.items ++ value_of_each l.value (drop l._name-index l.names) ≡ l.fn.found.items ++ value_of_each l.value l.names
