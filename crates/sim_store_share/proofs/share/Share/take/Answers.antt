use Rattle.std.proofs.Common.{◌≡◌, List, length, ap, sym, subst, ◌∙◌, arith}
use Rattle.sim_standard.specs.Drivers.{DriverState}
use Rattle.sim_standard.specs.State.{all_drivers}
use Rattle.sim_containers.specs.RowArray.{joined}
use Rattle.sim_store_share.specs.Shares.{all_taken, owned_lists, time_at}
use Rattle.sim_store_share.specs.Taking.{AreListed, AreNoted}
use Rattle.sim_store_share.proofs.Contents.{owned-drivers, owned-taken}
use Rattle.sim_store_share.proofs.Taken.{joined-taken, none-before-as, rows-taken, undue}
use Rattle.sim_store_share.proofs.share.Share.take.Goals as goal

pub take_due-requires : goal.take_due-requires
take_due-requires c =
    let s = c.self.inside in
    let i = c.self.invariant in
    let e = c.take.ensures in
    let all : all_drivers c.args.self.now ≡ joined s.drivers = ap all_drivers (sym c.self.view_is) ∙ owned-drivers s.drivers s.variables i.owned in
    let due = e.marked ∙ i.marked in
    let sized = e.sized ∙ i.sized in
    record {
      sized = (sized, due);
      others = λ d out. undue (joined s.drivers) c.take.new.self c.take.new.taken c.args.time d
          (none-before-as (all_drivers c.args.self.now) (joined s.drivers) c.args.time all c.requires.none) due sized
          (λ k lt none. e.others (time_at (joined s.drivers)) i.timed k (omega (arith, lt, i.sized)) none) out;
      none = e.none;
      listed = subst (λ (ds : List DriverState). AreListed c.args.first ds c.args.lists.now) all c.requires.listed;
    }

pub invariant_of-self : goal.invariant_of-self
invariant_of-self c =
    let s = c.self.inside in
    let i = c.self.invariant in
    let e = c.take_due.ensures in
    let rows = ap length e.drivers ∙ rows-taken c.args.time s.drivers in
    let long = joined-taken c.args.time s.drivers c.take_due.new.drivers e.drivers in
    record {
      owned = rows ∙ i.owned;
      sized = e.sized ∙ (c.take.ensures.sized ∙ (i.sized ∙ sym long));
      timed = e.timed;
      marked = c.take.ensures.marked ∙ (i.marked ∙ sym long);
    }

pub returns : goal.returns
returns c =
    let s = c.self.inside in
    let i = c.self.invariant in
    let e = c.take_due.ensures in
    let rows = ap length e.drivers ∙ rows-taken c.args.time s.drivers in
    record {
      taken = ap (λ (dss : List (List DriverState)). owned_lists dss s.variables) e.drivers ∙ (owned-taken c.args.time s.drivers s.variables
          ∙ ap (all_taken c.args.time) c.self.view_is);
      lists = subst (λ (ds : List DriverState). AreNoted c.args.first ds c.args.lists.now c.take_due.new.lists)
          (sym (owned-drivers c.take_due.new.drivers s.variables (rows ∙ i.owned))) e.lists;
    }
