use Rattle.std.proofs.Common.{map, ap, ◌∙◌, arith}
use Rattle.std.proofs.lemmas.Grind.{common_steps}
use Rattle.std.specs.List.{concat}
use Rattle.std.proofs.lemmas.Result.{on_ok_weaker}
use Rattle.sim_flat_design.specs.declared.statement.Statement.TheViews as views
use Rattle.sim_flat_design.specs.Bodies.{boolean_objects, statement_objects}
use Rattle.sim_flat_blocks.specs.Reads.{branch_objects}
use Rattle.sim_flat_blocks.proofs.ReadRules.{adds_both, adds_nothing, branch_reads, if_reads, null_reads}
use Rattle.sim_flat_blocks.proofs.reads.+statements.Goals as goal
use Rattle.sim_flat_blocks.proofs.ReadRules.{statements_read}

pub add_statement-returns-in-Null : goal.add_statement-returns-in-Null
add_statement-returns-in-Null t c =
    adds_nothing c.args.found.now.items (statement_objects c.args.statement.now) (ap statement_objects c.in-Null.is ∙ null_reads)

pub add_statement-returns-in_ok-add_branches-in-If : goal.add_statement-returns-in_ok-add_branches-in-If
add_statement-returns-in_ok-add_branches-in-If t c =
    on_ok_weaker c.add_statements.result
    (adds_both c.args.found.now.items c.add_branches.new.found.items c.add_statements.new.found.items
    (concat (map branch_objects c.as_slice.result.now)) (concat (map statement_objects c.as_slice-in-If.result.now)) (statement_objects c.args.statement.now)
    (rw (c.as_slice.ensures, c.as_slice-in-If.ensures)
    (ap statement_objects c.in-If.is ∙ if_reads c.in-If.branches c.in-If.otherwise))
    c.in_ok-add_branches-in-If.ensures)
    c.add_statements.ensures

pub add_branch-returns : goal.add_branch-returns
add_branch-returns t c =
    on_ok_weaker c.add_statements.result
    (adds_both c.args.found.now.items c.add_boolean.new.found.items c.add_statements.new.found.items
    (boolean_objects (views.out-Branch c.args.each.now).condition) (concat (map statement_objects c.as_slice.result.now)) (branch_objects c.args.each.now)
    (rw c.as_slice.ensures (branch_reads c.args.each.now))
    c.in_ok-add_boolean.ensures)
    c.add_statements.ensures

pub add_branches-loop-each-preserved : goal.add_branches-loop-each-preserved
add_branches-loop-each-preserved t c = grind (arith, common_steps)

pub add_branches-returns : goal.add_branches-returns
add_branches-returns t c = grind (arith, common_steps)

pub add_statements-loop-each-preserved : goal.add_statements-loop-each-preserved
add_statements-loop-each-preserved t c = grind (arith, common_steps)

pub add_statements-returns : goal.add_statements-returns
add_statements-returns t c = grind (arith, common_steps)

pub add_statement-returns-in-Signal : goal.add_statement-returns-in-Signal
add_statement-returns-in-Signal t c = grind (arith, statements_read)

pub add_statement-returns-in-LogicVariable : goal.add_statement-returns-in-LogicVariable
add_statement-returns-in-LogicVariable t c = grind (arith, statements_read)

pub add_statement-returns-in-BooleanVariable : goal.add_statement-returns-in-BooleanVariable
add_statement-returns-in-BooleanVariable t c = grind (arith, statements_read)
