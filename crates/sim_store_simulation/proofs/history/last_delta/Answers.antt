use Rattle.std.proofs.Common.{arith, ◌∙◌, sym}
use Rattle.sim_store_simulation.proofs.Reading.{delta-back, delta-begins, one-record}
use Rattle.sim_store_simulation.proofs.history.last_delta.Goals as goal

pub returns-then-times_of-ne0 : goal.returns-then-times_of-ne0
returns-then-times_of-ne0 c =
    let i = c.loop-place.invariant in
    let none = delta-begins c.args.entries.now c.loop-place.place _ c.loop-place-test.true c.loop-place.auto.place
    (λ w. c.if-times_of-ne0.true (c.times_of.ensures ∙ w)) in
    omega (arith, i.counted, none)

pub loop-place-preserved : goal.loop-place-preserved
loop-place-preserved c =
    let i = c.loop-place.invariant in
    let one = delta-back c.args.entries.now c.loop-place.place _ _ c.records_of.ensures c.loop-place-test.true c.loop-place.auto.place
    (sym c.times_of.ensures ∙ c.if-times_of-ne0.false) in
    let at_most = one-record _ _ c.records_of.ensures in
    record { counted = omega (arith, i.counted, one); few = omega (arith, i.few, c.loop-place-test.true, at_most) }
