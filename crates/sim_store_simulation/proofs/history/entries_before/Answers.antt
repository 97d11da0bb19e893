use Rattle.std.proofs.Common.{arith}
use Rattle.sim_store_simulation.proofs.Reading.{not-first, one-record, records-back, times-back}
use Rattle.sim_store_simulation.proofs.history.entries_before.Goals as goal

pub overflow_sub-passed : goal.overflow_sub-passed
overflow_sub-passed c =
    let i = c.loop-left.invariant in
    let some = not-first c.args.entries.now c.loop-left.place (omega (arith, i.records, c.loop-left-test.true)) in
    let times = times-back c.args.entries.now c.loop-left.place _ _ c.times_of-passed.ensures some i.within in
    omega (arith, times, i.times)

pub loop-left-preserved : goal.loop-left-preserved
loop-left-preserved c =
    let i = c.loop-left.invariant in
    let some = not-first c.args.entries.now c.loop-left.place (omega (arith, i.records, c.loop-left-test.true)) in
    let times = times-back c.args.entries.now c.loop-left.place _ _ c.times_of-passed.ensures some i.within in
    let records = records-back c.args.entries.now c.loop-left.place _ _ c.records_of-left.ensures some i.within in
    let at_most = one-record _ _ c.records_of-left.ensures in
    record {
      within = omega (arith, i.within);
      times = omega (arith, times, i.times);
      records = omega (arith, records, i.records);
      number = omega (arith, at_most, c.loop-left-test.true);
    }
