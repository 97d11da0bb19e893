use Rattle.std.proofs.Common.{◌<◌, ◌^◌}
use Rattle.sim_run_session.proofs.LinesBeside.{IsBeside}
use Rattle.sim_run_session.proofs.beside.carry_and_write.Given as goal

-- the same run so far, its lines, and a piece whose lines are still to be written
abbrev pub invariant-loop-turn : goal.invariant-loop-turn
invariant-loop-turn g l =
    (goal.iterator-loop-turn g).can_next l._turn-iterator × (goal.iterator-loop-turn g).is_finite l._turn-iterator
    × IsBeside l.fn.run (g.W.Write.contents l.initial.out) l.run l.piece.records (g.W.Write.contents l.out) × (l.piece.past.delta < 2 ^ 63)
