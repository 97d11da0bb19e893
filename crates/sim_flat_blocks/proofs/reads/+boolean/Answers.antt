use Rattle.std.proofs.Common.{map, ap, ◌∙◌, arith}
use Rattle.std.proofs.lemmas.Grind.{common_steps}
use Rattle.std.specs.List.{concat}
use Rattle.std.proofs.lemmas.Result.{on_ok_weaker}
use Rattle.sim_flat_design.specs.Bodies.{boolean_objects}
use Rattle.sim_flat_blocks.proofs.ReadRules.{adds_both, adds_nothing, boolean_chain_reads, boolean_variable_reads}
use Rattle.sim_flat_blocks.proofs.ReadRules.{booleans_compared_read, truth_reads}
use Rattle.sim_flat_blocks.proofs.reads.+boolean.Goals as goal
use Rattle.sim_flat_blocks.proofs.ReadRules.{booleans_read}

pub add_boolean-returns-in-Literal : goal.add_boolean-returns-in-Literal
add_boolean-returns-in-Literal t c =
    adds_nothing c.args.found.now.items (boolean_objects c.args.expression.now) (ap boolean_objects c.in-Literal.is ∙ truth_reads c.in-Literal.field-0)

pub add_boolean-returns-in-Variable : goal.add_boolean-returns-in-Variable
add_boolean-returns-in-Variable t c =
    adds_nothing c.args.found.now.items (boolean_objects c.args.expression.now)
    (ap boolean_objects c.in-Variable.is ∙ boolean_variable_reads c.in-Variable.field-0)

pub add_boolean-returns-in_ok-add_boolean-in-Chain : goal.add_boolean-returns-in_ok-add_boolean-in-Chain
add_boolean-returns-in_ok-add_boolean-in-Chain t c =
    on_ok_weaker c.add_booleans.result
    (adds_both c.args.found.now.items c.add_boolean-in-Chain.new.found.items c.add_booleans.new.found.items
    (boolean_objects c.get-in-Chain.result.now) (concat (map boolean_objects c.as_slice.result.now)) (boolean_objects c.args.expression.now)
    (rw (c.get-in-Chain.ensures, c.as_slice.ensures)
    (ap boolean_objects c.in-Chain.is ∙ boolean_chain_reads c.in-Chain.operator c.in-Chain.first c.in-Chain.rest))
    c.in_ok-add_boolean-in-Chain.ensures)
    c.add_booleans.ensures

pub add_boolean-returns-in_ok-add_boolean-in-BooleanComparison : goal.add_boolean-returns-in_ok-add_boolean-in-BooleanComparison
add_boolean-returns-in_ok-add_boolean-in-BooleanComparison t c =
    on_ok_weaker c.add_boolean-in-BooleanComparison-2.result
    (adds_both c.args.found.now.items c.add_boolean-in-BooleanComparison.new.found.items c.add_boolean-in-BooleanComparison-2.new.found.items
    (boolean_objects c.get-in-BooleanComparison.result.now) (boolean_objects c.get-in-BooleanComparison-2.result.now) (boolean_objects c.args.expression.now)
    (rw (c.get-in-BooleanComparison.ensures, c.get-in-BooleanComparison-2.ensures)
    (ap boolean_objects c.in-BooleanComparison.is ∙ booleans_compared_read c.in-BooleanComparison.left
    c.in-BooleanComparison.operator c.in-BooleanComparison.right))
    c.in_ok-add_boolean-in-BooleanComparison.ensures)
    c.add_boolean-in-BooleanComparison-2.ensures

pub add_booleans-loop-each-preserved : goal.add_booleans-loop-each-preserved
add_booleans-loop-each-preserved t c = grind (arith, common_steps)

pub add_booleans-returns : goal.add_booleans-returns
add_booleans-returns t c = grind (arith, common_steps)

pub add_boolean-returns-in-Event : goal.add_boolean-returns-in-Event
add_boolean-returns-in-Event t c = grind (arith, booleans_read)

pub add_boolean-returns-in-Edge : goal.add_boolean-returns-in-Edge
add_boolean-returns-in-Edge t c = grind (arith, booleans_read)

pub add_boolean-returns-in-Not : goal.add_boolean-returns-in-Not
add_boolean-returns-in-Not t c = grind (arith, booleans_read)

pub add_boolean-returns-in-Condition : goal.add_boolean-returns-in-Condition
add_boolean-returns-in-Condition t c = grind (arith, booleans_read)

pub add_boolean-returns-in-LogicComparison : goal.add_boolean-returns-in-LogicComparison
add_boolean-returns-in-LogicComparison t c = grind (arith, booleans_read)
