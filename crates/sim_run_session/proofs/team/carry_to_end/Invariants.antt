use Rattle.sim_store.specs.WaveStore.{IsSameRun}
use Rattle.std.proofs.Common.{◌≡◌}
use Rattle.sim_run_session.proofs.team.carry_to_end.Given as goal

-- the same run so far
abbrev pub invariant-loop-turn : goal.invariant-loop-turn
invariant-loop-turn g l =
    (goal.iterator-loop-turn g).can_next l._turn-iterator × (goal.iterator-loop-turn g).is_finite l._turn-iterator
    × IsSameRun l.initial.run.store l.run.store × (l.run.given ≡ l.initial.run.given)
