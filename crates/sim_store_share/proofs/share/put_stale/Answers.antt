use Rattle.std.proofs.Common.{◌≡◌, ◌+◌, ap, length, refl, arith, sym, subst, ◌∙◌}
use Rattle.std.proofs.lemmas.List.{length-set}
use Rattle.sim_containers.specs.RowArray.{joined}
use Rattle.sim_containers.specs.Times.{time_of}
use Rattle.sim_store_share.specs.PendingTimes.{Pending}
use Rattle.sim_store_share.specs.Shares.{time_at}
use Rattle.sim_store_share.proofs.Due.{times-more}
use Rattle.sim_store_nets.proofs.Walks.{Walked, walk_start}
use Rattle.sim_store_share.proofs.share.put_stale.Goals as goal

pub loop-number-init : goal.loop-number-init
loop-number-init c = record {
  same = refl;
  sized = c.requires.sized;
  within = omega arith;
  walked = walk_start c.args.times.now.stale c.requires.timed;
}

pub time_of_driver-requires : goal.time_of_driver-requires
time_of_driver-requires c = omega (arith, c.in-Some.ensures.within, c.loop-number.invariant.sized)

pub try_put-requires : goal.try_put-requires
try_put-requires c = c.in-Some.ensures.within

pub overflow_add-from : goal.overflow_add-from
overflow_add-from c =
    omega (arith, c.in-Some.ensures.within, c.loop-number.invariant.sized, ap length c.flat-count.ensures, c.flat-count.type_inv)

pub loop-number-smaller : goal.loop-number-smaller
loop-number-smaller c = omega (arith, c.in-Some.ensures.within, c.loop-number.invariant.sized, c.in-Some.ensures.next.further)

pub loop-number-preserved : goal.loop-number-preserved
loop-number-preserved c =
    let p = c.loop-number.times in
    let n = c.in-Some.number in
    let ds = joined c.args.drivers.now in
    let t = c.time_of_driver.result in
    let i = c.loop-number.invariant in
    let put = c.in_ok-try_put.ensures.ok in
    let stale = ap (λ (w : Pending). w.stale) put in
    let queue = ap (λ (w : Pending). w.queue) put in
    record {
      same = stale ∙ i.same;
      sized = ap length queue ∙ (length-set p.queue n t ∙ i.sized);
      within = omega (arith, c.in-Some.ensures.within, i.sized);
      walked = subst (λ w. Walked w (n + 1) (λ d. time_of c.try_put.new.self.queue d ≡ time_at ds d)) (sym stale)
          (times-more p.queue c.try_put.new.self.queue ds t i.walked c.in-Some.ensures.next c.in-Some.ensures.within queue c.time_of_driver.ensures);
    }
