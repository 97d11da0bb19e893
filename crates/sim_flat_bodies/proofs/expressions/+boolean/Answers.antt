use Rattle.std.proofs.Common.{rules}
use Rattle.std.proofs.Common.{arith}
use Rattle.std.proofs.lemmas.Grind.{common_steps}
use Rattle.sim_flat_scope.specs.Scopes.{means}
use Rattle.sim_flat_bodies.proofs.Translations.{operand_boolean_of}
use Rattle.sim_flat_bodies.proofs.expressions.+boolean.Goals as goal
use Rattle.sim_flat_bodies.proofs.Translations.{booleans_are}
use Rattle.sim_flat_design.proofs.Fitting.{booleans_fit}

pub boolean_chain-loop-each-preserved : goal.boolean_chain-loop-each-preserved
boolean_chain-loop-each-preserved t c =
    let look = means c.args.names.now.process.now c.args.names.now.architecture.now in
    grind (arith, common_steps, operand_boolean_of look c.each-item.result)

pub boolean-returns-then-not-is_boolean-clause-value : goal.boolean-returns-then-not-is_boolean-clause-value
boolean-returns-then-not-is_boolean-clause-value t c = search (rules, booleans_are, booleans_fit)

pub boolean-returns-in-Literal-clause-value : goal.boolean-returns-in-Literal-clause-value
boolean-returns-in-Literal-clause-value t c = search (rules, booleans_are, booleans_fit)

pub boolean-returns-in-Literal-clause-fits : goal.boolean-returns-in-Literal-clause-fits
boolean-returns-in-Literal-clause-fits t c = search (rules, booleans_are, booleans_fit)

pub boolean-returns-in-Named-clause-value : goal.boolean-returns-in-Named-clause-value
boolean-returns-in-Named-clause-value t c = search (rules, booleans_are, booleans_fit)

pub boolean-returns-in-Event-clause-value : goal.boolean-returns-in-Event-clause-value
boolean-returns-in-Event-clause-value t c = search (rules, booleans_are, booleans_fit)

pub boolean-returns-in-Call-clause-value : goal.boolean-returns-in-Call-clause-value
boolean-returns-in-Call-clause-value t c = search (rules, booleans_are, booleans_fit)

pub boolean-returns-in-Parenthesized-clause-value : goal.boolean-returns-in-Parenthesized-clause-value
boolean-returns-in-Parenthesized-clause-value t c = search (rules, booleans_are, booleans_fit)

pub boolean-returns-in_ok-operand-in-Not-clause-value : goal.boolean-returns-in_ok-operand-in-Not-clause-value
boolean-returns-in_ok-operand-in-Not-clause-value t c = search (rules, booleans_are, booleans_fit)

pub boolean-returns-in_ok-operand-in-Not-clause-fits : goal.boolean-returns-in_ok-operand-in-Not-clause-fits
boolean-returns-in_ok-operand-in-Not-clause-fits t c = search (rules, booleans_are, booleans_fit)

pub boolean-returns-in-Condition-clause-value : goal.boolean-returns-in-Condition-clause-value
boolean-returns-in-Condition-clause-value t c = search (rules, booleans_are, booleans_fit)

pub boolean-returns-in_ok-left-in-Comparison-clause-value : goal.boolean-returns-in_ok-left-in-Comparison-clause-value
boolean-returns-in_ok-left-in-Comparison-clause-value t c = search (rules, booleans_are, booleans_fit)

pub boolean-returns-in_ok-first-in-Chain-clause-value : goal.boolean-returns-in_ok-first-in-Chain-clause-value
boolean-returns-in_ok-first-in-Chain-clause-value t c = search (rules, booleans_are, booleans_fit)

pub boolean_chain-returns-clause-value : goal.boolean_chain-returns-clause-value
boolean_chain-returns-clause-value t c = grind (arith, common_steps, booleans_fit)

pub boolean_chain-returns-clause-fits : goal.boolean_chain-returns-clause-fits
boolean_chain-returns-clause-fits t c = search (rules, booleans_fit)

pub boolean_comparison-returns-clause-fits : goal.boolean_comparison-returns-clause-fits
boolean_comparison-returns-clause-fits t c = search (rules, booleans_fit)
