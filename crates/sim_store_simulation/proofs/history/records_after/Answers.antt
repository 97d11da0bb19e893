use Rattle.std.proofs.Common.{arith}
use Rattle.sim_store_simulation.proofs.Reading.{all-found, next-begins, none-found, one-found, passed-few}
use Rattle.sim_store_simulation.proofs.history.records_after.Goals as goal

pub loop-start-init : goal.loop-start-init
loop-start-init c =
    let at = c.next_record-start.ensures.place in
    record {
      all = none-found c.args.times.now c.args.before c.args.entries.now c.args.from c.next_record-start.result c.in_ok-records.records.items
          c.in_ok-records.ensures.items at;
      begins = next-begins c.args.entries.now c.args.from c.next_record-start.result at;
      within = c.next_record-start.ensures.within;
      times = omega (arith, at, c.requires.times);
      delta = omega (arith, at, c.requires.delta);
    }

pub loop-start-preserved : goal.loop-start-preserved
loop-start-preserved c =
    let i = c.loop-start.invariant in
    let at = c.next_record-end.ensures.place in
    let few = passed-few c.args.times.now c.loop-start.place c.passed-place.result _ c.passed-place.ensures in
    record {
      all = one-found c.args.times.now c.loop-start.place c.passed-place.result c.args.entries.now _ c.loop-start.start c.next_record-end.result
          c.in_ok-record.record c.loop-start.records.items _ _ c.loop-start-test.true i.begins at c.passed-place.ensures c.in_ok-record.ensures
          c.in_ok-push.ensures.items i.all;
      begins = next-begins c.args.entries.now _ c.next_record-end.result at;
      within = c.next_record-end.ensures.within;
      times = omega (arith, at, few.0, i.times);
      delta = omega (arith, at, few.1, i.delta);
    }

pub returns : goal.returns
returns c =
    all-found c.args.times.now c.loop-start.place c.args.entries.now c.loop-start.start c.loop-start.records.items _ c.loop-start-test.false
    c.loop-start.invariant.all
