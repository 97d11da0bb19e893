use Rattle.std.proofs.Common.{◌≡◌, ◌++◌, drop}
use Rattle.sim_flat_instances.specs.Components.{components}
use Rattle.sim_flat_instances.proofs.component.components.Given as goal

abbrev pub invariant-loop-declaration : goal.invariant-loop-declaration
invariant-loop-declaration l =
    l.components.items ++ components l.library (drop l.declaration-index l.declarations) ≡ components l.library l.declarations
