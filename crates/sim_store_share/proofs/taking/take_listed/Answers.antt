use Rattle.std.proofs.Common.{ℕ, ◌≡◌, ◌<◌, ◌≤◌, List, None, true, false, add-one, arith, get_or, refl, ap, sym, subst, length, map, ◌∙◌}
use Rattle.std.proofs.lemmas.List.{length-set}
use Rattle.sim_standard.specs.Drivers.{DriverState, taken}
use Rattle.sim_standard.specs.State.{driver_at}
use Rattle.sim_containers.specs.Numbers.{is_in}
use Rattle.sim_containers.specs.RowArray.{joined}
use Rattle.sim_containers.specs.Times.{time_of}
use Rattle.sim_containers.proofs.Ranges.{member_small}
use Rattle.sim_store_nets.proofs.Walks.{bound_at, listed_step, walk_listed, walk_on}
use Rattle.sim_store_share.proofs.Items.{joined-item}
use Rattle.sim_store_share.proofs.Taken.{all-noted, all-same, each-item, lengths-item, none-taken, rest-more, rest-noted, rest-start, taken-more, unset-more}
use Rattle.sim_store_share.proofs.taking.take_listed.Goals as goal

pub loop-place-init : goal.loop-place-init
loop-place-init c =
    let t = c.args.taking.now in
    record {
      rows = refl;
      long = refl;
      sized = refl;
      rest = λ d le. refl;
      unset = λ d le. c.requires.none d;
      noted = rest-start t.first (length (joined c.args.drivers.now)) c.args.lists.now;
      walked = none-taken t.time t.first (joined c.args.drivers.now) c.args.times.now c.args.lists.now t.due.now c.requires.others c.requires.listed;
    }

pub take_one-value-requires : goal.take_one-value-requires
take_one-value-requires c =
    let due = c.args.taking.now.due.now in
    let numbers = c.args.numbers.now in
    let place = c.loop-place.place in
    let i = c.loop-place.invariant in
    let within = member_small due numbers place c.requires.numbers c.loop-place-test.true in
    let next = listed_step due numbers place c.requires.numbers c.loop-place-test.true in
    record {
      number = omega (arith, within, c.requires.sized.1, i.long);
      sized = i.sized ∙ (c.requires.sized.0 ∙ sym i.long);
      none = i.unset (get_or numbers place 0) next.further next.passes;
    }

pub note-requires : goal.note-requires
note-requires c =
    let within = member_small c.args.taking.now.due.now c.args.numbers.now c.loop-place.place c.requires.numbers c.loop-place-test.true in
    omega (arith, within, c.requires.sized.1, c.requires.listed.within, c.loop-place.invariant.noted.sized)

pub overflow_add-first : goal.overflow_add-first
overflow_add-first c =
    let within = member_small c.args.taking.now.due.now c.args.numbers.now c.loop-place.place c.requires.numbers c.loop-place-test.true in
    omega (arith, within, c.requires.sized.1, c.requires.listed.within, c.drivers-drivers.ensures, c.drivers-drivers.type_inv)

pub loop-place-preserved : goal.loop-place-preserved
loop-place-preserved c =
    let t = c.args.taking.now in
    let due = t.due.now in
    let numbers = c.args.numbers.now in
    let place = c.loop-place.place in
    let k = get_or numbers place 0 in
    let from = bound_at numbers place in
    let old = joined c.args.drivers.now in
    let now = joined c.loop-place.drivers in
    let new = joined c.take_one-value.new.drivers in
    let p = c.loop-place.times in
    let p' = c.take_one-value.new.times in
    let i = c.loop-place.invariant in
    let e = c.take_one-value.ensures in
    let within = member_small due numbers place c.requires.numbers c.loop-place-test.true in
    let next = listed_step due numbers place c.requires.numbers c.loop-place-test.true in
    let at : k < length now = omega (arith, within, c.requires.sized.1, i.long) in
    let en = ap joined e.drivers ∙ joined-item c.loop-place.drivers k (taken t.time (driver_at now k)) in
    let was = i.rest k next.further in
    record {
      rows = ap (λ (dss : List (List DriverState)). map (λ (ds : List DriverState). length ds) dss) e.drivers ∙ (lengths-item c.loop-place.drivers k
          (taken t.time (driver_at now k)) ∙ i.rows);
      long = ap length en ∙ (length-set now k (taken t.time (driver_at now k)) ∙ i.long);
      sized = e.sized ∙ i.sized;
      rest = subst (λ (j : ℕ). (d : ℕ) → bound_at numbers j ≤ d → driver_at new d ≡ driver_at old d) (sym (add-one place))
          (rest-more t.time old now new from k next.further i.rest en);
      unset = subst (λ (j : ℕ). (d : ℕ) → bound_at numbers j ≤ d → is_in due d ≡ true → is_in p'.stale d ≡ false → time_of p'.queue d ≡ None)
          (sym (add-one place)) (unset-more p p' due from k _ e.told next.further i.unset);
      noted = rest-noted t.first (length old) c.args.lists.now c.loop-place.lists c.note.new.self k c.take_one-value.result i.noted
          (omega (arith, within, c.requires.sized.1)) c.note.ensures;
      walked = walk_on numbers place (taken-more t.time t.first old now new p p' c.loop-place.lists c.note.new.self due from k c.take_one-value.result
          i.walked next at was en e.told e.value (omega (arith, within, c.requires.sized.1, c.requires.listed.within, i.noted.sized)) c.note.ensures);
    }

pub returns : goal.returns
returns c =
    let t = c.args.taking.now in
    let i = c.loop-place.invariant in
    let old = joined c.args.drivers.now in
    let now = joined c.loop-place.drivers in
    let each = walk_listed c.args.numbers.now c.loop-place.place c.requires.numbers c.loop-place-test.false c.loop-place.auto.place-end i.walked in
    record {
      drivers = each-item (taken t.time) c.args.drivers.now c.loop-place.drivers i.rows (all-same now old t.time i.long (λ d. (each d).driver));
      sized = i.sized;
      timed = λ d fresh. (each d).known fresh;
      lists = all-noted t.first old now c.args.lists.now c.loop-place.lists c.requires.listed i.long i.noted (λ d lt. (each d).value lt);
    }
