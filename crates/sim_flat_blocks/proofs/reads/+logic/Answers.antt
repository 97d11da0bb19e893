use Rattle.std.proofs.Common.{map, ap, ◌∙◌, arith}
use Rattle.std.proofs.lemmas.Grind.{common_steps}
use Rattle.std.specs.List.{concat}
use Rattle.std.proofs.lemmas.Result.{on_ok_weaker}
use Rattle.sim_flat_design.specs.Bodies.{logic_objects}
use Rattle.sim_flat_blocks.proofs.ReadRules.{adds_both, adds_nothing, chain_reads, literal_reads, variable_reads}
use Rattle.sim_flat_blocks.proofs.reads.+logic.Goals as goal
use Rattle.sim_flat_blocks.proofs.ReadRules.{logics_read}

pub add_logic-returns-in-Literal : goal.add_logic-returns-in-Literal
add_logic-returns-in-Literal t c =
    adds_nothing c.args.found.now.items (logic_objects c.args.expression.now) (ap logic_objects c.in-Literal.is ∙ literal_reads c.in-Literal.field-0)

pub add_logic-returns-in-Variable : goal.add_logic-returns-in-Variable
add_logic-returns-in-Variable t c =
    adds_nothing c.args.found.now.items (logic_objects c.args.expression.now) (ap logic_objects c.in-Variable.is ∙ variable_reads c.in-Variable.field-0)

pub add_logic-returns-in_ok-add_logic-in-Chain : goal.add_logic-returns-in_ok-add_logic-in-Chain
add_logic-returns-in_ok-add_logic-in-Chain t c =
    on_ok_weaker c.add_logics.result
    (adds_both c.args.found.now.items c.add_logic-in-Chain.new.found.items c.add_logics.new.found.items
    (logic_objects c.get-in-Chain.result.now) (concat (map logic_objects c.as_slice.result.now)) (logic_objects c.args.expression.now)
    (rw (c.get-in-Chain.ensures, c.as_slice.ensures)
    (ap logic_objects c.in-Chain.is ∙ chain_reads c.in-Chain.operator c.in-Chain.first c.in-Chain.rest))
    c.in_ok-add_logic-in-Chain.ensures)
    c.add_logics.ensures

pub add_logics-loop-each-preserved : goal.add_logics-loop-each-preserved
add_logics-loop-each-preserved t c = grind (arith, common_steps)

pub add_logics-returns : goal.add_logics-returns
add_logics-returns t c = grind (arith, common_steps)

pub add_logic-returns-in_ok-push-in-Object : goal.add_logic-returns-in_ok-push-in-Object
add_logic-returns-in_ok-push-in-Object t c = grind (arith, logics_read)

pub add_logic-returns-in-Not : goal.add_logic-returns-in-Not
add_logic-returns-in-Not t c = grind (arith, logics_read)
