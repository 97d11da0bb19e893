use Rattle.std.proofs.Common.{◌<◌, List, arith, refl, ap, sym, length, map, ◌∙◌}
use Rattle.std.proofs.lemmas.List.{length-set}
use Rattle.sim_standard.specs.Drivers.{DriverState, taken}
use Rattle.sim_standard.specs.State.{driver_at}
use Rattle.sim_containers.specs.RowArray.{joined}
use Rattle.sim_store_nets.proofs.Walks.{member_within, walk_done}
use Rattle.sim_store_share.proofs.Items.{joined-item}
use Rattle.sim_store_share.proofs.Taken.{all-noted, all-same, each-item, lengths-item, none-taken, rest-more, rest-noted, rest-start, taken-more, unset-more}
use Rattle.sim_store_share.proofs.taking.take_each.Goals as goal

pub loop-number-init : goal.loop-number-init
loop-number-init c =
    let t = c.args.taking.now in
    record {
      rows = refl;
      long = refl;
      sized = refl;
      within = omega arith;
      rest = λ d le. refl;
      unset = λ d le. c.requires.none d;
      noted = rest-start t.first (length (joined c.args.drivers.now)) c.args.lists.now;
      walked = none-taken t.time t.first (joined c.args.drivers.now) c.args.times.now c.args.lists.now t.due.now c.requires.others c.requires.listed;
    }

pub take_one-value-requires : goal.take_one-value-requires
take_one-value-requires c = record {
  number = omega (arith, member_within c.args.taking.now.due.now c.in-Some.number c.in-Some.ensures.passes, c.requires.sized.1, c.loop-number.invariant.long);
  sized = c.loop-number.invariant.sized ∙ (c.requires.sized.0 ∙ sym c.loop-number.invariant.long);
  none = c.loop-number.invariant.unset c.in-Some.number c.in-Some.ensures.further c.in-Some.ensures.passes;
}

pub note-requires : goal.note-requires
note-requires c =
    omega (
      arith,
      member_within c.args.taking.now.due.now c.in-Some.number c.in-Some.ensures.passes,
      c.requires.sized.1,
      c.requires.listed.within,
      c.loop-number.invariant.noted.sized,
    )

pub loop-number-preserved : goal.loop-number-preserved
loop-number-preserved c =
    let t = c.args.taking.now in
    let k = c.in-Some.number in
    let old = joined c.args.drivers.now in
    let now = joined c.loop-number.drivers in
    let new = joined c.take_one-value.new.drivers in
    let i = c.loop-number.invariant in
    let e = c.take_one-value.ensures in
    let within = member_within t.due.now k c.in-Some.ensures.passes in
    let at : k < length now = omega (arith, within, c.requires.sized.1, i.long) in
    let en = ap joined e.drivers ∙ joined-item c.loop-number.drivers k (taken t.time (driver_at now k)) in
    let was = i.rest k c.in-Some.ensures.further in
    record {
      rows = ap (λ (dss : List (List DriverState)). map (λ (ds : List DriverState). length ds) dss) e.drivers ∙ (lengths-item c.loop-number.drivers k
          (taken t.time (driver_at now k)) ∙ i.rows);
      long = ap length en ∙ (length-set now k (taken t.time (driver_at now k)) ∙ i.long);
      sized = e.sized ∙ i.sized;
      within = omega (arith, within, c.requires.sized.1);
      unset = unset-more c.loop-number.times c.take_one-value.new.times t.due.now c.loop-number.from k _ e.told c.in-Some.ensures.further
          i.unset;
      rest = rest-more t.time old now new c.loop-number.from k c.in-Some.ensures.further i.rest en;
      noted = rest-noted t.first (length old) c.args.lists.now c.loop-number.lists c.note.new.self k c.take_one-value.result i.noted
          (omega (arith, within, c.requires.sized.1)) c.note.ensures;
      walked = taken-more t.time t.first old now new c.loop-number.times c.take_one-value.new.times c.loop-number.lists c.note.new.self
          t.due.now c.loop-number.from k c.take_one-value.result i.walked c.in-Some.ensures at was en e.told e.value
          (omega (arith, within, c.requires.sized.1, c.requires.listed.within, i.noted.sized)) c.note.ensures;
    }

pub returns : goal.returns
returns c =
    let t = c.args.taking.now in
    let i = c.loop-number.invariant in
    let old = joined c.args.drivers.now in
    let now = joined c.loop-number.drivers in
    let each = walk_done i.walked c.in_default.ensures in
    record {
      drivers = each-item (taken t.time) c.args.drivers.now c.loop-number.drivers i.rows (all-same now old t.time i.long (λ d. (each d).driver));
      sized = i.sized;
      timed = λ d fresh. (each d).known fresh;
      lists = all-noted t.first old now c.args.lists.now c.loop-number.lists c.requires.listed i.long i.noted (λ d lt. (each d).value lt);
    }

pub overflow_add-first : goal.overflow_add-first
overflow_add-first c =
    omega (
      arith,
      member_within c.args.taking.now.due.now c.in-Some.number c.in-Some.ensures.passes,
      c.requires.sized.1,
      c.requires.listed.within,
      c.drivers-drivers.ensures,
      c.drivers-drivers.type_inv,
    )

pub overflow_add-from : goal.overflow_add-from
overflow_add-from c =
    omega (arith, member_within c.args.taking.now.due.now c.in-Some.number c.in-Some.ensures.passes, c.len-due.ensures, c.len-due.type_inv)
