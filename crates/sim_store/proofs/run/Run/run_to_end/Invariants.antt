use Rattle.std.proofs.Common.{◌≡◌}
use Rattle.sim_store.specs.WaveStore.{IsSameRun}
use Rattle.sim_store.proofs.Stores.{steps_left}
use Rattle.sim_store.proofs.run.Run.run_to_end.Given as goal

-- the same run so far
abbrev pub invariant-loop-alloc : goal.invariant-loop-alloc
invariant-loop-alloc l = IsSameRun l.fn.self.store l.run.store × (l.run.given ≡ l.fn.self.given)

abbrev pub decreases-loop-alloc : goal.decreases-loop-alloc
decreases-loop-alloc l = steps_left l.run.store
