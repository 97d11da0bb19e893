use Rattle.std.proofs.Common.{◌∙◌}
use Rattle.sim_store_nets.proofs.Views.{past_values, past_values_before, view_here}
use Rattle.sim_store_nets.proofs.nets.view_at.Goals as goal
use Rattle.sim_store_nets.proofs.nets.view_at.Goals.{then-number-values-via-then-number-values}
use Rattle.sim_store_nets.proofs.nets.view_at.Goals.{then-number-values-via-else-number-values+then-number-values_before}

pub returns-then-number-values : goal.returns-then-number-values
returns-then-number-values c = elim c.then-number-values.branch [
  | then-number-values-via-then-number-values w ↦ past_values c.args.values.now c.args.values_before.now c.args.number w.if-number-values.true
  | then-number-values-via-else-number-values+then-number-values_before w ↦ past_values_before c.args.values.now c.args.values_before.now c.args.number
      w.if-number-values_before.true
]

pub returns : goal.returns
returns c = c.changed_to.ensures ∙ view_here c.args.values.now c.args.values_before.now c.args.number _ _ c.if-number-values.false
    c.if-number-values_before.false
