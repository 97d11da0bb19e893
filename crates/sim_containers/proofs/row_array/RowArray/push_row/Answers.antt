use Rattle.std.proofs.Common.{◌∙◌}
use Rattle.sim_containers.proofs.Flat.{pushed_back, viewed_again, rows-flat}
use Rattle.sim_containers.proofs.row_array.RowArray.push_row.Goals as goal

pub invariant_of-self-2 : goal.invariant_of-self-2
invariant_of-self-2 g c =
    viewed_again (pushed_back c.self.invariant c.self.view_is c.args.row.now _ _ _ c.len.result c.self.inside.flat.len c.in_ok-extend_from_slice.ensures.items
    (c.len.ensures ∙ c.in_ok-extend_from_slice.ensures.len) (c.self.inside.flat.ok.0) c.in_ok-reserve.ensures.items c.push_reserved.ensures.items)

pub returns-clause-ok : goal.returns-clause-ok
returns-clause-ok g c =
    rows-flat (pushed_back c.self.invariant c.self.view_is c.args.row.now _ _ _ c.len.result c.self.inside.flat.len c.in_ok-extend_from_slice.ensures.items
    (c.len.ensures ∙ c.in_ok-extend_from_slice.ensures.len) (c.self.inside.flat.ok.0) c.in_ok-reserve.ensures.items c.push_reserved.ensures.items)
