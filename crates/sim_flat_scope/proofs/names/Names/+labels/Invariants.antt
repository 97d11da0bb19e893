use Rattle.std.proofs.Common.{◌≡◌, ◌++◌, drop}
use Rattle.sim_flat_scope.specs.DeclaredNames.{statement_labels, branches_labels}
use Rattle.sim_flat_scope.proofs.names.Names.+labels.Given as goal

abbrev pub invariant-push_branches-loop-branch : goal.invariant-push_branches-loop-branch
invariant-push_branches-loop-branch l = l.self ++ branches_labels (drop l.branch-index l.branches) ≡ l.fn.self ++ branches_labels l.branches

abbrev pub invariant-push_statements-loop-statement : goal.invariant-push_statements-loop-statement
invariant-push_statements-loop-statement l = l.self ++ statement_labels (drop l.statement-index l.statements) ≡ l.fn.self ++ statement_labels l.statements
