use Rattle.std.proofs.Common.{arith, rules}
use Rattle.std.proofs.lemmas.Grind.{common_steps}
use Rattle.std.proofs.Common.{refl}
use Rattle.std.proofs.lemmas.Result.{on_ok_weaker}
use Rattle.sim_flat_scope.specs.Scopes.{means}
use Rattle.sim_flat_bodies.specs.Statements.{branch_targets, branches_targets, sequence_targets, sequential_targets}
use Rattle.sim_flat_bodies.proofs.StatementRules.{else_gathered, gathers_more, only_gathered}
use Rattle.sim_flat_bodies.proofs.assigned.+gathering.Goals as goal
use Rattle.sim_flat_bodies.proofs.StatementRules.{targets_are}
use Rattle.sim_flat_bodies.specs.Statements.{gathered}

pub add_branches-loop-each-preserved : goal.add_branches-loop-each-preserved
unfolding branches_targets
add_branches-loop-each-preserved t c =
    let look = means c.args.names.now.process.now c.args.names.now.architecture.now in
    gathers_more (branches_targets look) (branch_targets look) (λ x xs. refl) c.args.list.now c.loop-each.each-index c.each-item.result
    c.loop-each-test.true c.each-item.is c.loop-each.targets c.add_branch.new.targets _ c.in_ok-add_branch.ensures c.loop-each.invariant

pub add_sequence-loop-each-preserved : goal.add_sequence-loop-each-preserved
unfolding sequence_targets
add_sequence-loop-each-preserved t c =
    let look = means c.args.names.now.process.now c.args.names.now.architecture.now in
    gathers_more (sequence_targets look) (sequential_targets look) (λ x xs. refl) c.args.list.now c.loop-each.each-index c.each-item.result
    c.loop-each-test.true c.each-item.is c.loop-each.targets c.add_labelled.new.targets _ c.in_ok-add_labelled.ensures c.loop-each.invariant

pub add_statement-returns-in-Some : goal.add_statement-returns-in-Some
add_statement-returns-in-Some t c =
    on_ok_weaker c.add_sequence.result
    (else_gathered (means c.args.names.now.process.now c.args.names.now.architecture.now) c.args.statement.now c.in-If.branches c.as_slice.result.now
    c.in-If.otherwise c.in-Some.statements c.as_slice-in-Some.result.now c.in-If.label_repeated c.args.targets.now c.add_branches.new.targets
    c.add_sequence.new.targets c.in-If.is c.in-Some.is c.as_slice.ensures c.as_slice-in-Some.ensures c.in_ok-add_branches-in-If.ensures)
    c.add_sequence.ensures

pub add_statement-returns-in-None : goal.add_statement-returns-in-None
add_statement-returns-in-None t c =
    only_gathered (means c.args.names.now.process.now c.args.names.now.architecture.now) c.args.statement.now c.in-If.branches c.as_slice.result.now
    c.in-If.otherwise c.in-If.label_repeated c.args.targets.now c.add_branches.new.targets c.in-If.is c.in-None.is c.as_slice.ensures
    c.in_ok-add_branches-in-If.ensures

pub add_branch-returns : goal.add_branch-returns
add_branch-returns t c = search (rules, targets_are)

pub add_branches-returns : goal.add_branches-returns
unfolding branches_targets gathered
add_branches-returns t c = grind (arith, common_steps)

pub add_labelled-returns : goal.add_labelled-returns
add_labelled-returns t c = search (rules, targets_are)

pub add_sequence-returns : goal.add_sequence-returns
unfolding gathered sequence_targets
add_sequence-returns t c = grind (arith, common_steps)

pub add_statement-returns-in-Signal : goal.add_statement-returns-in-Signal
unfolding gathered
add_statement-returns-in-Signal t c = search (rules, targets_are)

pub add_statement-returns-in-Variable : goal.add_statement-returns-in-Variable
unfolding gathered
add_statement-returns-in-Variable t c = search (rules, targets_are)

pub add_statement-returns-in-Null : goal.add_statement-returns-in-Null
unfolding gathered
add_statement-returns-in-Null t c = search (rules, targets_are)
