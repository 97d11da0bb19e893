use Rattle.std.proofs.Common.{◌≡◌, fold, map, drop}
use Rattle.sim_standard.specs.Expressions as spec
use Rattle.sim_exec_statements.proofs.values.+boolean_values.Given as goal

-- the remaining operands, folded onto the value so far, give the value of the whole chain
abbrev pub invariant-boolean_chain-loop-operand : goal.invariant-boolean_chain-loop-operand
invariant-boolean_chain-loop-operand g l =
    let values = map (spec.boolean_value (g.N.Nets.look l.nets) l.variables) in
    fold (spec.boolean_operation l.operator) l.value (values (drop l.operand-index l.rest))
    ≡ fold (spec.boolean_operation l.operator) l.fn.first (values l.fn.rest)
