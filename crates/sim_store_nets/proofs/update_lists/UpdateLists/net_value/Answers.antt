use Rattle.std.proofs.Common.{map, ap, sym, ◌∙◌}
use Rattle.sim_store_nets.specs.Lists.{Lists, net_from}
use Rattle.sim_store_nets.specs.Nets.{row_from, value_from}
use Rattle.sim_store_nets.proofs.update_lists.UpdateLists.net_value.Goals as goal

pub resolved_value-requires : goal.resolved_value-requires
resolved_value-requires c some =
    c.self.invariant.tallied.kept c.args.net some
    ∙ (ap (map (value_from c.self.inside.driving.items)) (sym c.row.ensures)
    ∙ ap (λ vs. map (value_from vs) c.row.result.now) (sym c.as_slice.ensures.value))

pub returns : goal.returns
returns c =
    c.resolved_value.ensures ∙ (ap (λ vs. row_from vs c.row.result.now) c.as_slice.ensures.value
    ∙ (ap (row_from c.self.inside.driving.items) c.row.ensures ∙ ap (λ (l : Lists). net_from l c.args.net) c.self.view_is))
