use Rattle.std.proofs.Common.{ap, sym, ◌∙◌, length, arith}
use Rattle.std.proofs.lemmas.List.{length-set}
use Rattle.sim_standard.specs.State.{Owned}
use Rattle.sim_store_share.proofs.Held.{both-set, own-at, own-count, own-set}
use Rattle.sim_store_share.proofs.Putting.{joined-count, row-within, times-outside}
use Rattle.sim_containers.specs.RowArray.{joined}
use Rattle.sim_store_share.proofs.share.Share.put.Goals as goal

pub put-requires : goal.put-requires
put-requires c = record {
  at = omega (arith, c.requires.at, own-count c.self.inside.drivers c.self.inside.variables c.args.self.now c.self.view_is c.self.invariant.owned);
  long = c.requires.drivers ∙ ap (λ (o : Owned). length o.drivers)
      (own-at c.self.inside.drivers c.self.inside.variables c.args.self.now c.self.view_is c.self.invariant.owned c.args.place);
}

pub put-requires-2 : goal.put-requires-2
put-requires-2 c = record {
  at = omega (
    arith,
    c.requires.at,
    own-count c.self.inside.drivers c.self.inside.variables c.args.self.now c.self.view_is c.self.invariant.owned,
    c.self.invariant.owned,
  );
  long = c.requires.variables ∙ ap (λ (o : Owned). length o.variables)
      (own-at c.self.inside.drivers c.self.inside.variables c.args.self.now c.self.view_is c.self.invariant.owned c.args.place);
}

pub row_bounds-start-requires : goal.row_bounds-start-requires
row_bounds-start-requires c =
    omega (
      arith,
      c.requires.at,
      own-count c.self.inside.drivers c.self.inside.variables c.args.self.now c.self.view_is c.self.invariant.owned,
      ap length c.put.ensures.new,
      length-set c.self.inside.drivers c.args.place c.args.drivers.now,
    )

pub tell-requires : goal.tell-requires
tell-requires c =
    let dss = c.self.inside.drivers in
    let row = c.args.drivers.now in
    let b = c.row_bounds-start in
    let count = own-count dss c.self.inside.variables c.args.self.now c.self.view_is c.self.invariant.owned in
    let long = c.requires.drivers ∙ ap (λ (o : Owned). length o.drivers)
    (own-at dss c.self.inside.variables c.args.self.now c.self.view_is c.self.invariant.owned c.args.place) in
    record {
      range = row-within dss c.put.new.self c.args.place b.result.0 b.result.1 row c.put.ensures.new (omega (arith, c.requires.at, count)) b.ensures.start
          b.ensures.end;
      sized = c.self.invariant.sized ∙ sym (ap (λ w. length (joined w)) c.put.ensures.new ∙ joined-count dss c.args.place row long);
      others = λ d side fresh. c.self.invariant.timed d fresh ∙ times-outside dss c.put.new.self c.args.place b.result.0 b.result.1 row c.put.ensures.new
          (omega (arith, c.requires.at, count)) long b.ensures.start b.ensures.end d side;
    }

pub invariant_of-self : goal.invariant_of-self
invariant_of-self c =
    let dss = c.self.inside.drivers in
    let row = c.args.drivers.now in
    let long = c.requires.drivers ∙ ap (λ (o : Owned). length o.drivers)
    (own-at dss c.self.inside.variables c.args.self.now c.self.view_is c.self.invariant.owned c.args.place) in
    let same = sym (ap (λ w. length (joined w)) c.put.ensures.new ∙ joined-count dss c.args.place row long) in
    record {
      owned = both-set dss c.self.inside.variables c.args.place row c.args.variables.now c.put.new.self c.put-2.new.self c.self.invariant.owned
          c.put.ensures.new c.put-2.ensures.new;
      sized = c.tell.ensures.sized ∙ (c.self.invariant.sized ∙ same);
      timed = c.tell.ensures.told;
      marked = c.self.invariant.marked ∙ same;
    }

pub returns : goal.returns
returns c =
    own-set c.self.inside.drivers c.self.inside.variables c.args.self.now c.self.view_is c.self.invariant.owned c.args.place c.args.drivers.now
    c.args.variables.now c.put.new.self c.put-2.new.self c.put.ensures.new c.put-2.ensures.new
