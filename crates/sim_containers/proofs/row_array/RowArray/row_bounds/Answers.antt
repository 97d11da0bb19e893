use Rattle.std.proofs.Common.{refl, ap, length, arith}
use Rattle.sim_containers.proofs.Flat.{count, places_read, start-read}
use Rattle.sim_containers.proofs.row_array.RowArray.row_bounds.Goals as goal

pub bounds-requires : goal.bounds-requires
bounds-requires g c = omega (arith, count c.self.invariant, ap length c.self.view_is, c.requires, ap length c.as_slice.ensures.value)

pub returns-clause-start : goal.returns-clause-start
returns-clause-start g c =
    start-read c.self.invariant c.self.view_is c.args.place c.bounds.result.0 c.as_slice.result.now (omega (arith, c.requires))
    c.as_slice.ensures.value c.bounds.ensures.start

pub returns-clause-end : goal.returns-clause-end
returns-clause-end g c =
    let q = places_read c.self.invariant c.self.view_is c.args.place _ _ _ c.self.inside.flat.items c.requires c.as_slice.ensures.value refl
    c.bounds.ensures.start c.bounds.ensures.end in
    q.long
