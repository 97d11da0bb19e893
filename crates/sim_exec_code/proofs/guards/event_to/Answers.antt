use Rattle.std.proofs.Common.{ℕ, ◌&&◌, Bool, ap, ◌∙◌}
use Rattle.sim_exec_statements.proofs.ValueRules.{boolean_event}
use Rattle.sim_standard.specs.Expressions.{boolean_value}
use Rattle.sim_exec_code.specs.Guards.{is_among}
use Rattle.sim_exec_code.proofs.guards.event_to.Goals as goal

pub returns-then-level-object : goal.returns-then-level-object
returns-then-level-object c = λ look variables.
    let object = c.in-Event.object in
    let level = c.in-Some.level in
    ap (λ (b : Bool). b && boolean_value look variables c.args.level.now)
    (ap (boolean_value look variables) c.in-Event.is ∙ boolean_event look variables object)
    ∙ ap (λ (b : Bool). (look object).event && b)
    (c.in-Some.ensures look variables
    ∙ (ap (λ (o : ℕ). is_among (look o).value level.values) c.if-level-object.true
    ∙ ap (is_among (look object).value) c.in-Only.is))
