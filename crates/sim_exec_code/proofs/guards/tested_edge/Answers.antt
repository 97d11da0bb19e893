use Rattle.std.proofs.Common.{sym, ap, ◌∙◌}
use Rattle.sim_exec_statements.proofs.ValueRules.{boolean_edge}
use Rattle.sim_standard.specs.Expressions.{boolean_value}
use Rattle.sim_exec_code.proofs.guards.tested_edge.Goals as goal

pub returns-in-Edge : goal.returns-in-Edge
returns-in-Edge c = λ look variables.
    ap (boolean_value look variables) c.in-Edge.is
    ∙ (boolean_edge look variables c.in-Edge.rising c.in-Edge.object ∙ sym (c.kind_of.ensures (look c.in-Edge.object)))
