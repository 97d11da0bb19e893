use Rattle.sim_store_simulation.proofs.Reading.{changes-step}
use Rattle.sim_store_simulation.proofs.history.changes.Goals as goal

pub loop-entry-preserved : goal.loop-entry-preserved
loop-entry-preserved c =
    changes-step c.args.entries.now c.loop-entry.entry-index _ c.loop-entry.changes.items _ c.loop-entry-test.true c.loop-entry.invariant
    c.in_ok-push_change.ensures
