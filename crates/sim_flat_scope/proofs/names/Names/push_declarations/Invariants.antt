use Rattle.std.proofs.Common.{◌≡◌, ◌++◌, drop}
use Rattle.sim_flat_scope.specs.DeclaredNames as spec
use Rattle.sim_flat_scope.proofs.names.Names.push_declarations.Given as goal

abbrev pub invariant-loop-declaration : goal.invariant-loop-declaration
invariant-loop-declaration l = l.self ++ spec.declaration_names (drop l.declaration-index l.declarations) ≡ l.fn.self ++ spec.declaration_names l.declarations
