use Rattle.std.proofs.Common.{arith}
use Rattle.std.proofs.lemmas.Grind.{common_steps}
use Rattle.std.proofs.Common.{refl, ap, sym, ◌∙◌}
use Rattle.sim_flat_scope.specs.Faults.{earliest}
use Rattle.sim_flat_scope.specs.Scopes.{means}
use Rattle.sim_flat_check.specs.Statements.{branch_faults, branches_faults, sequential_faults, sequence_faults}
use Rattle.sim_flat_check.proofs.Sequences.{sequential_is, no_else, with_else}
use Rattle.sim_flat_check.proofs.Turns.{one_more}
use Rattle.sim_flat_check.proofs.statements.+statements.Goals as goal
use Rattle.sim_flat_check.proofs.Sequences.{branch_is, statement_rules}
use Rattle.sim_flat_scope.proofs.Faults.{of_both}

pub branches-loop-each-preserved : goal.branches-loop-each-preserved
unfolding branches_faults
branches-loop-each-preserved t c =
    let look = means c.args.inner.now c.args.outer.now in
    one_more (branches_faults look) (branch_faults look) (λ x xs. refl)
    c.args.branches.now c.loop-each.each-index c.each-item.result c.loop-each-test.true c.each-item.is
    c.loop-each.first c.if_branch.new.first _ c.if_branch.ensures c.loop-each.invariant

pub sequence-loop-each-preserved : goal.sequence-loop-each-preserved
unfolding sequence_faults
sequence-loop-each-preserved t c =
    let look = means c.args.inner.now c.args.outer.now in
    one_more (sequence_faults look) (sequential_faults look) (λ x xs. refl)
    c.args.statements.now c.loop-each.each-index c.each-item.result c.loop-each-test.true c.each-item.is
    c.loop-each.first c.statement.new.first _ (c.statement.ensures ∙ ap (earliest c.loop-each.first) (sym (sequential_is look c.each-item.result)))
    c.loop-each.invariant

pub statement-returns-in-Some : goal.statement-returns-in-Some
statement-returns-in-Some t c =
    with_else (means c.args.inner.now c.args.outer.now) c.args.first.now c.args.statement.now c.in-If.all c.in-If.otherwise c.in-If.label_repeated c.in-If.is
    c.in-Some.statements c.in-Some.is c.as_slice.result.now c.as_slice.ensures c.as_slice-in-Some.result.now c.as_slice-in-Some.ensures
    c.branches.new.first c.sequence.new.first c.branches.ensures c.sequence.ensures

pub statement-returns-in-None : goal.statement-returns-in-None
statement-returns-in-None t c =
    no_else (means c.args.inner.now c.args.outer.now) c.args.first.now c.args.statement.now c.in-If.all c.in-If.otherwise c.in-If.label_repeated c.in-If.is
    c.in-None.is c.as_slice.result.now c.as_slice.ensures c.branches.new.first c.branches.ensures

pub branches-returns : goal.branches-returns
unfolding branches_faults earliest
branches-returns t c = grind (arith, common_steps)

pub if_branch-returns : goal.if_branch-returns
if_branch-returns t c = grind (arith, branch_is, of_both)

pub sequence-returns : goal.sequence-returns
unfolding sequence_faults earliest
sequence-returns t c = grind (arith, common_steps, sequential_is)

pub statement-returns-in-Signal : goal.statement-returns-in-Signal
unfolding earliest
statement-returns-in-Signal t c = grind (arith, statement_rules)

pub statement-returns-in-Variable : goal.statement-returns-in-Variable
unfolding earliest
statement-returns-in-Variable t c = grind (arith, statement_rules)

pub statement-returns-in-Null : goal.statement-returns-in-Null
unfolding earliest
statement-returns-in-Null t c = grind (arith, statement_rules)
