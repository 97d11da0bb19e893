use Rattle.std.proofs.Common.{rules}
use Rattle.std.proofs.Common.{arith}
use Rattle.std.proofs.lemmas.Grind.{common_steps}
use Rattle.sim_flat_scope.specs.Scopes.{means}
use Rattle.sim_flat_bodies.proofs.Translations.{operand_logic_of}
use Rattle.sim_flat_bodies.proofs.expressions.+logic.Goals as goal
use Rattle.sim_flat_bodies.proofs.Translations.{logics_are}
use Rattle.sim_flat_design.proofs.Fitting.{logics_fit}

pub logic_operands-loop-each-preserved : goal.logic_operands-loop-each-preserved
logic_operands-loop-each-preserved t c =
    let look = means c.args.names.now.process.now c.args.names.now.architecture.now in
    grind (arith, common_steps, operand_logic_of look c.each-item.result)

pub logic-returns-in-Literal-clause-value : goal.logic-returns-in-Literal-clause-value
logic-returns-in-Literal-clause-value t c = search (rules, logics_are, logics_fit)

pub logic-returns-in-Literal-clause-fits : goal.logic-returns-in-Literal-clause-fits
logic-returns-in-Literal-clause-fits t c = search (rules, logics_are, logics_fit)

pub logic-returns-in-Named-clause-value : goal.logic-returns-in-Named-clause-value
logic-returns-in-Named-clause-value t c = search (rules, logics_are, logics_fit)

pub logic-returns-in-Parenthesized-clause-value : goal.logic-returns-in-Parenthesized-clause-value
logic-returns-in-Parenthesized-clause-value t c = search (rules, logics_are, logics_fit)

pub logic-returns-in_ok-operand-in-Not-clause-value : goal.logic-returns-in_ok-operand-in-Not-clause-value
logic-returns-in_ok-operand-in-Not-clause-value t c = search (rules, logics_are, logics_fit)

pub logic-returns-in_ok-operand-in-Not-clause-fits : goal.logic-returns-in_ok-operand-in-Not-clause-fits
logic-returns-in_ok-operand-in-Not-clause-fits t c = search (rules, logics_are, logics_fit)

pub logic-returns-in_ok-rest-in-Chain-clause-value : goal.logic-returns-in_ok-rest-in-Chain-clause-value
logic-returns-in_ok-rest-in-Chain-clause-value t c = search (rules, logics_are, logics_fit)

pub logic-returns-in_ok-rest-in-Chain-clause-fits : goal.logic-returns-in_ok-rest-in-Chain-clause-fits
logic-returns-in_ok-rest-in-Chain-clause-fits t c = search (rules, logics_are, logics_fit)

pub logic-returns-in-Event-clause-value : goal.logic-returns-in-Event-clause-value
logic-returns-in-Event-clause-value t c = search (rules, logics_are, logics_fit)

pub logic-returns-in-Event-clause-fits : goal.logic-returns-in-Event-clause-fits
logic-returns-in-Event-clause-fits t c = search (rules, logics_are, logics_fit)

pub logic_operands-returns-clause-value : goal.logic_operands-returns-clause-value
logic_operands-returns-clause-value t c = grind (arith, common_steps)
