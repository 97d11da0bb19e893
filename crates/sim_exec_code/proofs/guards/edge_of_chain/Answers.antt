use Rattle.std.proofs.Common.{◌≡◌, [], ◌∷◌, ap, ◌∙◌, arith}
use Rattle.sim_logic.specs.declared.operator_symbol.Logical.{Logical}
use Rattle.sim_logic.specs.declared.operator_symbol.Logical.TheVariants as logical
use Rattle.sim_flat_design.specs.declared.expression.BooleanExpression.TheVariants as b
use Rattle.sim_exec_code.proofs.Assembled.{only}
use Rattle.sim_exec_code.proofs.GuardedBodies.{both_tested}
use Rattle.sim_exec_code.proofs.guards.edge_of_chain.Goals as goal

pub returns-in-len1 : goal.returns-in-len1
returns-in-len1 c =
    let rest : c.args.rest.now ≡ c.second-item.result ∷ [] =
    only c.args.rest.now c.second-item.result (omega (arith, c.in-len1.len_at_least, c.in-len1.len_below)) c.second-item.is in
    both_tested c.edge_of_both.result (b.Chain c.args.operator c.args.first.now c.args.rest.now) c.args.first.now c.second-item.result
    (ap (λ (o : Logical). b.Chain o c.args.first.now c.args.rest.now) c.in-And.is ∙ ap (b.Chain logical.And c.args.first.now) rest)
    c.edge_of_both.ensures
