-- Each exit, and each loop.
use Rattle.std.proofs.Common.{arith}
use Rattle.std.proofs.lemmas.Grind.{common_steps}
use Rattle.sim_flat_design.specs.declared.statement.Statement.TheFolds.{the_lemmas}
use Rattle.sim_flat_design.proofs.statement.+nested_statements.Goals as goal

pub Branch::same-returns-then-same : goal.Branch::same-returns-then-same
Branch::same-returns-then-same t c = grind (arith, the_lemmas)

pub Branch::same-returns-else-same : goal.Branch::same-returns-else-same
Branch::same-returns-else-same t c = grind (arith, the_lemmas)

pub Statement::same-returns-in-Signal-Signal : goal.Statement::same-returns-in-Signal-Signal
Statement::same-returns-in-Signal-Signal t c = grind (arith, the_lemmas)

pub Statement::same-returns-then-place-other_place : goal.Statement::same-returns-then-place-other_place
Statement::same-returns-then-place-other_place t c = grind (arith, the_lemmas)

pub Statement::same-returns-else-place-other_place : goal.Statement::same-returns-else-place-other_place
Statement::same-returns-else-place-other_place t c = grind (arith, the_lemmas)

pub Statement::same-returns-then-place-other_place-2 : goal.Statement::same-returns-then-place-other_place-2
Statement::same-returns-then-place-other_place-2 t c = grind (arith, the_lemmas)

pub Statement::same-returns-else-place-other_place-2 : goal.Statement::same-returns-else-place-other_place-2
Statement::same-returns-else-place-other_place-2 t c = grind (arith, the_lemmas)

pub Statement::same-returns-then-same_branches : goal.Statement::same-returns-then-same_branches
Statement::same-returns-then-same_branches t c = grind (arith, the_lemmas)

pub Statement::same-returns-else-same_branches : goal.Statement::same-returns-else-same_branches
Statement::same-returns-else-same_branches t c = grind (arith, the_lemmas)

pub Statement::same-returns-in-Null-Null : goal.Statement::same-returns-in-Null-Null
Statement::same-returns-in-Null-Null t c = grind (arith, the_lemmas)

pub Statement::same-returns-in_default : goal.Statement::same-returns-in_default
Statement::same-returns-in_default t c = grind (arith, the_lemmas)

pub Statement::same-returns-in_default-2 : goal.Statement::same-returns-in_default-2
Statement::same-returns-in_default-2 t c = grind (arith, the_lemmas)

pub Statement::same-returns-in_default-3 : goal.Statement::same-returns-in_default-3
Statement::same-returns-in_default-3 t c = grind (arith, the_lemmas)

pub Statement::same-returns-in_default-4 : goal.Statement::same-returns-in_default-4
Statement::same-returns-in_default-4 t c = grind (arith, the_lemmas)

pub Statement::same-returns-in_default-5 : goal.Statement::same-returns-in_default-5
Statement::same-returns-in_default-5 t c = grind (arith, the_lemmas)

pub same_branches-returns-then-not-same : goal.same_branches-returns-then-not-same
same_branches-returns-then-not-same t c = grind (arith, common_steps)

pub same_branches-loop-i-preserved : goal.same_branches-loop-i-preserved
same_branches-loop-i-preserved t c = grind (arith, common_steps)

pub same_branches-returns : goal.same_branches-returns
same_branches-returns t c = grind (arith, common_steps)

pub same_statements-returns-then-not-same : goal.same_statements-returns-then-not-same
same_statements-returns-then-not-same t c = grind (arith, common_steps)

pub same_statements-loop-i-preserved : goal.same_statements-loop-i-preserved
same_statements-loop-i-preserved t c = grind (arith, common_steps)

pub same_statements-returns : goal.same_statements-returns
same_statements-returns t c = grind (arith, common_steps)
