use Rattle.std.proofs.Common.{◌≡◌, true, take, map}
use Rattle.std.specs.List.{All}
use Rattle.sim_flat_scope.specs.Scopes.{means}
use Rattle.sim_flat_design.specs.Bodies.{boolean_fits}
use Rattle.sim_flat_bodies.specs.Expressions.{operand_boolean}
use Rattle.sim_flat_bodies.proofs.expressions.+boolean.Given as goal

abbrev pub invariant-boolean_chain-loop-each : goal.invariant-boolean_chain-loop-each
invariant-boolean_chain-loop-each l =
    (l.found.items ≡ map (operand_boolean (means l.names.process.now l.names.architecture.now)) (take l.each-index l.operands))
    × All (λ x. boolean_fits l.names.objects l.names.variables.now x ≡ true) l.found.items
