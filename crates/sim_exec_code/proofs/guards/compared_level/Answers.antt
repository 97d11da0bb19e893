use Rattle.std.proofs.Common.{◌≡◌, ap, ◌∙◌}
use Rattle.sim_logic.specs.declared.logic.Logic.{Logic}
use Rattle.sim_logic.specs.Logic.{is_same}
use Rattle.sim_logic.specs.declared.operator_symbol.Relational.{Relational}
use Rattle.sim_exec_statements.proofs.ValueRules.{logic_literal, logic_object, logics_compared}
use Rattle.sim_standard.specs.Expressions.{relation, logic_value}
use Rattle.sim_exec_code.proofs.guards.compared_level.Goals as goal

pub returns : goal.returns
returns c = λ look variables.
    let a = c.args.left.now in
    let b = c.args.right.now in
    let left : logic_value look variables a ≡ (look c.in-Object.object).value =
    ap (logic_value look variables) c.in-Object.is ∙ logic_object look variables c.in-Object.object in
    let right : logic_value look variables b ≡ c.in-Literal.value =
    ap (logic_value look variables) c.in-Literal.is ∙ logic_literal look variables c.in-Literal.value in
    logics_compared look variables a c.args.operator b
    ∙ (ap (λ (o : Relational). relation o (is_same (logic_value look variables a) (logic_value look variables b))) c.in-Equal.is
    ∙ (ap (λ (v : Logic). is_same v (logic_value look variables b)) left ∙ ap (is_same (look c.in-Object.object).value) right))
