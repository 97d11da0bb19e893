use Rattle.std.proofs.Common.{◌-◌, ◌<◌, [], ◌∷◌, length, get_or, ap, sym, subst, ◌∙◌, arith}
use Rattle.std.proofs.lemmas.List.{length-set}
use Rattle.sim_exec_statements.specs.Ready.{IsReady}
use Rattle.sim_containers.specs.RowArray.{joined}
use Rattle.sim_store_share.specs.InTurn.{AreExecuted, process_in}
use Rattle.sim_store_share.specs.Shares.{owned_lists, time_at}
use Rattle.sim_store_share.proofs.Bodies.{body-done, body-kept, body-row, idle-done, idle-row}
use Rattle.sim_store_share.proofs.Held.{both-set, own-at, own-count}
use Rattle.sim_store_share.proofs.Putting.{joined-count, row-within, times-outside}
use Rattle.sim_store_share.proofs.WithoutValue.{on_ok_without_value}
use Rattle.sim_store_share.proofs.share.Share.execute_body.Goals as goal

pub execute_in_rows-done-requires : goal.execute_in_rows-done-requires
execute_in_rows-done-requires c =
    let s = c.self.inside in
    let p = c.args.number - c.args.reading.now.first in
    let here = c.requires.here in
    let count = own-count s.drivers s.variables c.args.self.now c.self.view_is c.self.invariant.owned in
    record {
      from = here.from;
      executable = record {
        reading = c.requires.reading;
        frame = c.requires.frame;
        number = here.number;
        ready = subst (IsReady (process_in c.args.reading.now c.args.number).body c.args.reading.now.time)
            (own-at s.drivers s.variables c.args.self.now c.self.view_is c.self.invariant.owned p) here.ready;
      };
      drivers = omega (arith, here.owns, count);
      variables = omega (arith, here.owns, count, c.self.invariant.owned);
    }

pub invariant_of-self : goal.invariant_of-self
invariant_of-self c =
    let s = c.self.inside in
    let e = c.execute_in_rows-done in
    let p = c.args.number - c.args.reading.now.first in
    let none = c.may_have_changed.ensures c.if-not-may_have_changed.true in
    let same = idle-row c.args.reading.now c.args.number e.result s.drivers e.new.drivers s.variables e.new.variables
    c.args.self.now c.self.view_is c.self.invariant.owned c.requires.here e.ensures.drivers e.ensures.variables e.ensures.done none in
    record {
      owned = both-set s.drivers s.variables p (get_or e.new.drivers p []) (get_or e.new.variables p []) e.new.drivers e.new.variables
          c.self.invariant.owned e.ensures.drivers e.ensures.variables;
      sized = c.self.invariant.sized ∙ ap (λ w. length (joined w)) same;
      timed = λ d fresh. c.self.invariant.timed d fresh ∙ ap (λ w. time_at (joined w) d) same;
      marked = c.self.invariant.marked ∙ ap (λ w. length (joined w)) same;
    }

pub returns-then-not-may_have_changed-clause-done : goal.returns-then-not-may_have_changed-clause-done
returns-then-not-may_have_changed-clause-done c =
    let s = c.self.inside in
    let e = c.execute_in_rows-done in
    idle-done c.args.reading.now c.args.number e.result s.drivers e.new.drivers s.variables e.new.variables
    c.args.self.now c.self.view_is c.self.invariant.owned c.requires.here e.ensures.drivers e.ensures.variables e.ensures.done
    (c.may_have_changed.ensures c.if-not-may_have_changed.true)

pub returns-then-not-may_have_changed-clause-kept : goal.returns-then-not-may_have_changed-clause-kept
returns-then-not-may_have_changed-clause-kept c =
    let s = c.self.inside in
    let e = c.execute_in_rows-done in
    body-kept c.args.reading.now c.args.number e.result s.drivers e.new.drivers s.variables e.new.variables
    c.args.self.now c.self.view_is c.self.invariant.owned c.requires.here e.ensures.drivers e.ensures.variables e.ensures.done

pub row_bounds-start-requires : goal.row_bounds-start-requires
row_bounds-start-requires c =
    let s = c.self.inside in
    let e = c.execute_in_rows-done in
    let p = c.args.number - c.args.reading.now.first in
    omega (
      arith,
      c.requires.here.owns,
      own-count s.drivers s.variables c.args.self.now c.self.view_is c.self.invariant.owned,
      ap length e.ensures.drivers,
      length-set s.drivers p (get_or e.new.drivers p []),
    )

pub tell-requires : goal.tell-requires
tell-requires c =
    let s = c.self.inside in
    let e = c.execute_in_rows-done in
    let p = c.args.number - c.args.reading.now.first in
    let row = get_or e.new.drivers p [] in
    let b = c.row_bounds-start in
    let at : p < length s.drivers =
    omega (arith, c.requires.here.owns, own-count s.drivers s.variables c.args.self.now c.self.view_is c.self.invariant.owned) in
    let long = body-row c.args.reading.now c.args.number e.result s.drivers e.new.drivers s.variables e.new.variables
    c.args.self.now c.self.view_is c.self.invariant.owned c.requires.here e.ensures.drivers e.ensures.variables e.ensures.done in
    record {
      range = row-within s.drivers e.new.drivers p b.result.0 b.result.1 row e.ensures.drivers at b.ensures.start b.ensures.end;
      sized = c.self.invariant.sized ∙ sym (ap (λ w. length (joined w)) e.ensures.drivers ∙ joined-count s.drivers p row long);
      others = λ d side fresh. c.self.invariant.timed d fresh ∙ times-outside s.drivers e.new.drivers p b.result.0 b.result.1 row e.ensures.drivers at long
          b.ensures.start b.ensures.end d side;
    }

pub invariant_of-self-2 : goal.invariant_of-self-2
invariant_of-self-2 c =
    let s = c.self.inside in
    let e = c.execute_in_rows-done in
    let p = c.args.number - c.args.reading.now.first in
    let row = get_or e.new.drivers p [] in
    let long = body-row c.args.reading.now c.args.number e.result s.drivers e.new.drivers s.variables e.new.variables
    c.args.self.now c.self.view_is c.self.invariant.owned c.requires.here e.ensures.drivers e.ensures.variables e.ensures.done in
    let same = sym (ap (λ w. length (joined w)) e.ensures.drivers ∙ joined-count s.drivers p row long) in
    record {
      owned = both-set s.drivers s.variables p row (get_or e.new.variables p []) e.new.drivers e.new.variables c.self.invariant.owned
          e.ensures.drivers e.ensures.variables;
      sized = c.tell.ensures.sized ∙ (c.self.invariant.sized ∙ same);
      timed = c.tell.ensures.told;
      marked = c.self.invariant.marked ∙ same;
    }

pub returns-clause-done : goal.returns-clause-done
returns-clause-done c =
    let s = c.self.inside in
    let e = c.execute_in_rows-done in
    on_ok_without_value (AreExecuted c.args.reading.now (c.args.number ∷ []) c.args.self.now (owned_lists e.new.drivers e.new.variables)) e.result
    c.as_done.result c.as_done.ensures
    (body-done c.args.reading.now c.args.number e.result s.drivers e.new.drivers s.variables e.new.variables
    c.args.self.now c.self.view_is c.self.invariant.owned c.requires.here e.ensures.drivers e.ensures.variables e.ensures.done)

pub returns-clause-kept : goal.returns-clause-kept
returns-clause-kept c =
    let s = c.self.inside in
    let e = c.execute_in_rows-done in
    body-kept c.args.reading.now c.args.number e.result s.drivers e.new.drivers s.variables e.new.variables
    c.args.self.now c.self.view_is c.self.invariant.owned c.requires.here e.ensures.drivers e.ensures.variables e.ensures.done
