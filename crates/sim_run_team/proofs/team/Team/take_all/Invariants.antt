use Rattle.std.proofs.Common.{◌≡◌, map}
use Rattle.sim_run_team.proofs.team.Team.take_all.Given as goal

-- each that was begun keeps its number
abbrev pub invariant-loop-post : goal.invariant-loop-post
invariant-loop-post g l = map (λ b. b.number) l.begun ≡ map (λ b. b.number) l.fn.begun
