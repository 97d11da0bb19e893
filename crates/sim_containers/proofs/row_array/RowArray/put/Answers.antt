use Rattle.std.proofs.Common.{◌-◌, ◌≡◌, ap, length, arith, ◌∙◌}
use Rattle.sim_containers.proofs.Flat.{places_read, count, put_back, viewed_again, rows-flat}
use Rattle.sim_containers.proofs.row_array.RowArray.put.Goals as goal

pub bounds-start-requires : goal.bounds-start-requires
bounds-start-requires g c =
    omega (arith, count c.self.invariant, ap length c.self.view_is, c.requires.at, ap length c.as_slice.ensures.value)

pub replace-requires : goal.replace-requires
replace-requires g c =
    let q = places_read c.self.invariant c.self.view_is c.args.place _ _ _ _ c.requires.at c.as_slice.ensures.value c.as_mut_slice.ensures.value
    c.bounds-start.ensures.start c.bounds-start.ensures.end in
    omega (arith, q.within, q.long, c.requires.long)

pub invariant_of-self : goal.invariant_of-self
invariant_of-self g c =
    viewed_again (put_back c.self.invariant c.self.view_is c.args.place _ c.self.inside.flat.len c.args.row.now c.replace.new.flat _ _ c.requires.at
    c.as_slice.ensures.value c.as_mut_slice.ensures.value c.bounds-start.ensures.start c.requires.long c.replace.ensures.new
    (omega (arith, c.replace.auto.flat, ap length c.as_mut_slice.ensures.value, c.self.inside.flat.ok)))

pub returns-clause-new : goal.returns-clause-new
returns-clause-new g c =
    rows-flat (put_back c.self.invariant c.self.view_is c.args.place _ c.self.inside.flat.len c.args.row.now c.replace.new.flat _ _ c.requires.at
    c.as_slice.ensures.value c.as_mut_slice.ensures.value c.bounds-start.ensures.start c.requires.long c.replace.ensures.new
    (omega (arith, c.replace.auto.flat, ap length c.as_mut_slice.ensures.value, c.self.inside.flat.ok)))

pub returns-clause-row : goal.returns-clause-row
returns-clause-row g c =
    let q = places_read c.self.invariant c.self.view_is c.args.place _ _ _ _ c.requires.at c.as_slice.ensures.value c.as_mut_slice.ensures.value
    c.bounds-start.ensures.start c.bounds-start.ensures.end in
    let n : c.bounds-start.result.1 - c.bounds-start.result.0 ≡ length c.args.row.now = omega (arith, q.long, c.requires.long) in
    c.replace.ensures.row ∙ rw n at q.holds
