use Rattle.std.proofs.Common.{◌≡◌, map}
use Rattle.sim_run_team.proofs.team.Team.begin_all.Given as goal

-- each order so far is begun, with its number
abbrev pub invariant-loop-order : goal.invariant-loop-order
invariant-loop-order g l = map (λ b. b.number) l.begun.items ≡ map g.W.Work.number_of_order l.yielded
