use Rattle.std.proofs.Common.{refl, ap, get_or, ◌∙◌}
use Rattle.sim_containers.proofs.Flat.{viewed_again, rows-flat}
use Rattle.sim_store_share.proofs.Items.{item_put}
use Rattle.sim_containers.specs.RowArray.{joined}
use Rattle.sim_store_share.specs.Rows.{with_item}
use Rattle.sim_store_share.proofs.rows.item_mut.Goals as goal

pub invariant_of-rows-lent : goal.invariant_of-rows-lent
invariant_of-rows-lent g c w = viewed_again (item_put c.rows.invariant c.args.number w)

pub returns : goal.returns
returns g c = (
  (refl, λ w. rows-flat (item_put c.rows.invariant c.args.number w) ∙ ap (λ xss. with_item xss c.args.number w) c.rows.view_is),
  record {
    writes_back = tt {0};
    value = c.index_mut.ensures.value ∙ ap (λ f. get_or f c.args.number c.index_mut.result.now) (c.rows.invariant.holding ∙ ap joined c.rows.view_is);
  },
)
