use Rattle.std.proofs.Common.{rules, arith}
use Rattle.std.proofs.lemmas.Grind.{common_steps}
use Rattle.sim_flat_scope.specs.Scopes.{means}
use Rattle.sim_flat_design.proofs.Fitting.{branch_fitting, if_fits}
use Rattle.sim_flat_bodies.proofs.StatementRules.{signal_is, variable_is, if_else_made, if_only_made}
use Rattle.sim_flat_bodies.proofs.statements.+statements.Goals as goal
use Rattle.sim_flat_bodies.proofs.StatementRules.{statements_are}
use Rattle.sim_flat_design.proofs.Fitting.{statements_fit}

pub statement-returns-in_ok-otherwise-in-Some-clause-value : goal.statement-returns-in_ok-otherwise-in-Some-clause-value
statement-returns-in_ok-otherwise-in-Some-clause-value t c =
    if_else_made (means c.args.names.now.process.now c.args.names.now.architecture.now) c.args.targets.now c.args.statement.now
    c.in-If.all c.as_slice.result.now c.in-If.otherwise c.in-Some.statements c.as_slice-in-Some.result.now c.in-If.label_repeated
    c.in_ok-branches-in-If.branches c.in_ok-otherwise-in-Some.otherwise c.in-If.is c.in-Some.is c.as_slice.ensures c.as_slice-in-Some.ensures
    c.in_ok-branches-in-If.ensures.value c.in_ok-otherwise-in-Some.ensures.value

pub statement-returns-in-None-clause-value : goal.statement-returns-in-None-clause-value
statement-returns-in-None-clause-value t c =
    if_only_made (means c.args.names.now.process.now c.args.names.now.architecture.now) c.args.targets.now c.args.statement.now
    c.in-If.all c.as_slice.result.now c.in-If.otherwise c.in-If.label_repeated
    c.in_ok-branches-in-If.branches c.new-otherwise.result c.in-If.is c.in-None.is c.as_slice.ensures
    c.in_ok-branches-in-If.ensures.value c.new-otherwise.ensures

pub branch-returns-clause-fits : goal.branch-returns-clause-fits
branch-returns-clause-fits t c = search (rules, branch_fitting)

pub statement-returns-in_ok-otherwise-in-Some-clause-fits : goal.statement-returns-in_ok-otherwise-in-Some-clause-fits
statement-returns-in_ok-otherwise-in-Some-clause-fits t c = search (rules, if_fits)

pub statement-returns-in-None-clause-fits : goal.statement-returns-in-None-clause-fits
statement-returns-in-None-clause-fits t c = search (rules, if_fits)

pub statement-returns-in-Signal-clause-value : goal.statement-returns-in-Signal-clause-value
statement-returns-in-Signal-clause-value t c = search (rules, signal_is)

pub statement-returns-in-Variable-clause-value : goal.statement-returns-in-Variable-clause-value
statement-returns-in-Variable-clause-value t c = search (rules, variable_is)

pub sequence-loop-each-preserved : goal.sequence-loop-each-preserved
sequence-loop-each-preserved t c = grind (arith, common_steps)

pub branches-loop-each-preserved : goal.branches-loop-each-preserved
branches-loop-each-preserved t c = grind (arith, common_steps)

pub branch-returns-clause-value : goal.branch-returns-clause-value
branch-returns-clause-value t c = search (rules, statements_are, statements_fit)

pub branches-returns-clause-value : goal.branches-returns-clause-value
branches-returns-clause-value t c = grind (arith, common_steps)

pub labelled-returns-clause-value : goal.labelled-returns-clause-value
labelled-returns-clause-value t c = search (rules, statements_are)

pub sequence-returns-clause-value : goal.sequence-returns-clause-value
sequence-returns-clause-value t c = grind (arith, common_steps)

pub statement-returns-in-Null-clause-value : goal.statement-returns-in-Null-clause-value
statement-returns-in-Null-clause-value t c = search (rules, statements_are, statements_fit)

pub statement-returns-in-Null-clause-fits : goal.statement-returns-in-Null-clause-fits
statement-returns-in-Null-clause-fits t c = search (rules, statements_are, statements_fit)
