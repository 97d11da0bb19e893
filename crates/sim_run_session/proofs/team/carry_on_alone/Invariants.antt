use Rattle.sim_run_session.specs.Streaming.{HasGoneOn}
use Rattle.sim_run_session.proofs.team.carry_on_alone.Given as goal

-- it has gone on so far
abbrev pub invariant-loop-turn : goal.invariant-loop-turn
invariant-loop-turn g l =
    (goal.iterator-loop-turn g).can_next l._turn-iterator × (goal.iterator-loop-turn g).is_finite l._turn-iterator × HasGoneOn l.fn.run l.run
