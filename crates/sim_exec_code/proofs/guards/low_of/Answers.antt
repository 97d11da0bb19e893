use Rattle.std.proofs.Common.{ap, ◌∙◌}
use Rattle.sim_flat_design.specs.declared.expression.LogicExpression.TheVariants as l
use Rattle.sim_logic.specs.Tables.{not_table}
use Rattle.sim_exec_statements.proofs.ValueRules.{logic_not, logic_object, condition_taken}
use Rattle.sim_standard.specs.Expressions.{condition, logic_value}
use Rattle.sim_exec_code.proofs.guards.low_of.Goals as goal

pub returns-in-Object : goal.returns-in-Object
returns-in-Object c = λ look variables.
    condition_taken look variables (l.Not c.args.operand.now)
    ∙ ap condition (logic_not look variables c.args.operand.now
    ∙ ap not_table (ap (logic_value look variables) c.in-Object.is ∙ logic_object look variables c.in-Object.object))
