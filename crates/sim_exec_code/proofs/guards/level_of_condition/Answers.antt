use Rattle.std.proofs.Common.{ap, ◌∙◌}
use Rattle.sim_exec_statements.proofs.ValueRules.{logic_object, condition_taken}
use Rattle.sim_standard.specs.Expressions.{condition, logic_value}
use Rattle.sim_exec_code.proofs.guards.level_of_condition.Goals as goal

pub returns-in-Object : goal.returns-in-Object
returns-in-Object c = λ look variables.
    condition_taken look variables c.args.operand.now
    ∙ ap condition (ap (logic_value look variables) c.in-Object.is ∙ logic_object look variables c.in-Object.object)
