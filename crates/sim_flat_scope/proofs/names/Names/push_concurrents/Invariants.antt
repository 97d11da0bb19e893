use Rattle.std.proofs.Common.{◌≡◌, ◌++◌, drop}
use Rattle.sim_flat_scope.specs.DeclaredNames as spec
use Rattle.sim_flat_scope.proofs.names.Names.push_concurrents.Given as goal

abbrev pub invariant-loop-statement : goal.invariant-loop-statement
invariant-loop-statement l = l.self ++ spec.concurrent_labels (drop l.statement-index l.statements) ≡ l.fn.self ++ spec.concurrent_labels l.statements
