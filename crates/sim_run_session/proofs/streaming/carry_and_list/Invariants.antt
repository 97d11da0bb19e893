use Rattle.sim_run_session.proofs.LinesMeanwhile.{IsLed}
use Rattle.sim_run_session.proofs.streaming.carry_and_list.Given as goal

-- the same run so far, and its lines
abbrev pub invariant-loop-turn : goal.invariant-loop-turn
invariant-loop-turn g l =
    (goal.iterator-loop-turn g).can_next l._turn-iterator × (goal.iterator-loop-turn g).is_finite l._turn-iterator
    × IsLed l.fn.run (g.W.Write.contents l.initial.out) l.run (g.W.Write.contents l.out)
