use Rattle.std.proofs.Common.{◌≡◌, ◌∷◌, [], List, length, map, set, refl, ap, sym, ◌∙◌, arith}
use Rattle.std.proofs.lemmas.List.{length-map, length-set}
use Rattle.sim_standard.specs.Drivers.{DriverState, next_time, taken}
use Rattle.sim_standard.specs.State.{all_drivers, driver_at}
use Rattle.sim_containers.specs.RowArray.{joined}
use Rattle.sim_containers.specs.Times.{clear, those_at, time_of}
use Rattle.sim_store_share.specs.PendingTimes.{Pending}
use Rattle.sim_store_share.specs.Shares.{all_taken, owned_lists, time_at}
use Rattle.sim_store_share.proofs.Contents.{owned-drivers, owned-taken}
use Rattle.sim_store_share.proofs.Items.{joined-item}
use Rattle.sim_store_share.proofs.Due.{due-cleared}
use Rattle.sim_store_share.proofs.Held.{least-known, own-drivers}
use Rattle.sim_store_share.proofs.Taken.{each-item, length-item, lengths-item, none-before, only-here, only-known, only-same, only-value, only-within}
use Rattle.sim_store_share.proofs.share.Share.take_only.Goals as goal

pub take_only-requires : goal.take_only-requires
take_only-requires c =
    let s = c.self.inside in
    let i = c.self.invariant in
    let current = c.is_current.ensures c.if-not-is_current.false in
    least-known s.times s.drivers i.sized i.timed current
    ∙ (ap next_time (sym (own-drivers s.drivers s.variables c.args.self.now c.self.view_is i.owned)) ∙ c.requires.next)

pub take_one-value-requires : goal.take_one-value-requires
take_one-value-requires c =
    let s = c.self.inside in
    let i = c.self.invariant in
    let current = c.is_current.ensures c.if-not-is_current.false in
    let p = s.times in
    record {
      number = only-within (joined s.drivers) p c.args.time c.in_ok-number.number current i.timed c.in_ok-number.ensures.only i.sized;
      sized = ap (λ (q : Pending). length q.queue) c.in_ok-number.ensures.cleared ∙ (length-map p.queue (clear c.args.time) ∙ i.sized);
      none = λ _. due-cleared p.queue _ (those_at c.args.time p.queue) c.args.time c.in_ok-number.number refl
          (ap (λ (q : Pending). q.queue) c.in_ok-number.ensures.cleared) c.in_ok-number.ensures.only.passes;
    }

pub invariant_of-self-2 : goal.invariant_of-self-2
invariant_of-self-2 c =
    let s = c.self.inside in
    let i = c.self.invariant in
    let current = c.is_current.ensures c.if-not-is_current.false in
    let p = s.times in
    let ds = joined s.drivers in
    let n = c.in_ok-number.number in
    let only = c.in_ok-number.ensures.only in
    let within = only-within ds p c.args.time n current i.timed only i.sized in
    let e = c.take_one-value.ensures in
    let x = taken c.args.time (driver_at ds n) in
    let now = joined c.take_one-value.new.drivers in
    let en : now ≡ set ds n x = ap joined e.drivers ∙ joined-item s.drivers n x in
    let long : length now ≡ length ds = ap length en ∙ length-set ds n x in
    let cleared = c.in_ok-number.ensures.cleared in
    record {
      owned = ap length e.drivers ∙ (length-item s.drivers n x ∙ i.owned);
      sized = e.sized ∙ (ap (λ (q : Pending). length q.queue) cleared ∙ (length-map p.queue (clear c.args.time) ∙ (i.sized ∙ sym long)));
      timed = e.told (time_at now) (ap (λ (w : DriverState). next_time (w ∷ [])) (only-here ds p c.args.time n current i.timed only now within en))
          (λ d apart fresh. ap (λ (q : Pending). time_of q.queue d) cleared ∙ only-known ds p c.args.time n current i.timed only now en d apart);
      marked = i.marked ∙ sym long;
    }

pub returns-clause-only : goal.returns-clause-only
returns-clause-only c =
    let s = c.self.inside in
    let i = c.self.invariant in
    let current = c.is_current.ensures c.if-not-is_current.false in
    let p = s.times in
    let ds = joined s.drivers in
    let n = c.in_ok-number.number in
    let only = c.in_ok-number.ensures.only in
    let within = only-within ds p c.args.time n current i.timed only i.sized in
    let e = c.take_one-value.ensures in
    let x = taken c.args.time (driver_at ds n) in
    let now = joined c.take_one-value.new.drivers in
    let en : now ≡ set ds n x = ap joined e.drivers ∙ joined-item s.drivers n x in
    let all : all_drivers c.args.self.now ≡ ds = ap all_drivers (sym c.self.view_is) ∙ owned-drivers s.drivers s.variables i.owned in
    let none = none-before ds c.args.time (ap next_time (sym all) ∙ c.requires.next) in
    let rows = ap (λ (dss : List (List DriverState)). map (λ (w : List DriverState). length w) dss) e.drivers ∙ lengths-item s.drivers n x in
    let drivers = each-item (taken c.args.time) s.drivers c.take_one-value.new.drivers rows
    (only-same ds p c.args.time n current i.timed only now none within en) in
    let count = ap length e.drivers ∙ (length-item s.drivers n x ∙ i.owned) in
    let after : all_drivers (owned_lists c.take_one-value.new.drivers s.variables) ≡ now = owned-drivers c.take_one-value.new.drivers s.variables count in
    record {
      within = omega (arith, within, ap length all);
      taken = ap (λ (dss : List (List DriverState)). owned_lists dss s.variables) drivers ∙ (owned-taken c.args.time s.drivers s.variables
          ∙ ap (all_taken c.args.time) c.self.view_is);
      value_is = e.value ∙ ap (λ (w : DriverState). w.value) (sym (ap (λ w. driver_at w n) after
          ∙ only-here ds p c.args.time n current i.timed only now within en));
      others = λ d apart. ap (λ (ws : List DriverState). (driver_at ws d).value) after
          ∙ (only-value ds p c.args.time n current i.timed only now en d apart ∙ ap (λ (ws : List DriverState). (driver_at ws d).value) (sym all));
    }
