use Rattle.std.proofs.Common.{◌≡◌, true, take, map}
use Rattle.std.specs.List.{All}
use Rattle.sim_flat_scope.specs.Scopes.{means}
use Rattle.sim_flat_design.specs.Bodies.{logic_fits}
use Rattle.sim_flat_bodies.specs.Expressions.{operand_logic}
use Rattle.sim_flat_bodies.proofs.expressions.+logic.Given as goal

abbrev pub invariant-logic_operands-loop-each : goal.invariant-logic_operands-loop-each
invariant-logic_operands-loop-each l =
    (l.found.items ≡ map (operand_logic (means l.names.process.now l.names.architecture.now)) (take l.each-index l.operands))
    × All (λ x. logic_fits l.names.objects l.names.variables.now x ≡ true) l.found.items
