use Rattle.std.proofs.Common.{◌≡◌, map}
use Rattle.sim_run_team.proofs.team.Team.wait.Given as goal

-- each that was begun keeps its number
abbrev pub invariant-loop-answer : goal.invariant-loop-answer
invariant-loop-answer g l = map (λ b. b.number) l.begun ≡ map (λ b. b.number) l.fn.begun
