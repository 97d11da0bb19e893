use Rattle.std.proofs.Common.{ap, length, arith, ◌∙◌}
use Rattle.sim_containers.proofs.Flat.{places_read, count}
use Rattle.sim_containers.proofs.row_array.RowArray.row.Goals as goal

pub bounds-start-requires : goal.bounds-start-requires
bounds-start-requires g c =
    omega (arith, count c.self.invariant, ap length c.self.view_is, c.requires, ap length c.as_slice.ensures.value)

pub part-requires : goal.part-requires
part-requires g c =
    let q = places_read c.self.invariant c.self.view_is c.args.place _ _ _ _ c.requires c.as_slice.ensures.value c.as_slice-2.ensures.value
    c.bounds-start.ensures.start c.bounds-start.ensures.end in
    record { order = q.order; within = q.within }

pub returns : goal.returns
returns g c =
    let q = places_read c.self.invariant c.self.view_is c.args.place _ _ _ _ c.requires c.as_slice.ensures.value c.as_slice-2.ensures.value
    c.bounds-start.ensures.start c.bounds-start.ensures.end in
    c.part.ensures ∙ q.holds
