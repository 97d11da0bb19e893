use Rattle.std.proofs.Common.{◌≡◌, map}
use Rattle.sim_run_team.proofs.team.Team.take_at.Given as goal

-- each that was begun keeps its number
abbrev pub invariant-loop-turn : goal.invariant-loop-turn
invariant-loop-turn g l =
    (goal.iterator-loop-turn g).can_next l._turn-iterator × (goal.iterator-loop-turn g).is_finite l._turn-iterator
    × (map (λ b. b.number) l.begun ≡ map (λ b. b.number) l.fn.begun)
