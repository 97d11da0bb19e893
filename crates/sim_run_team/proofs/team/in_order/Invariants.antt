use Rattle.std.proofs.Common.{◌≡◌, ◌++◌, map}
use Rattle.sim_run_team.proofs.team.in_order.Given as goal

-- each answer so far has the number of its order
abbrev pub invariant-loop-one : goal.invariant-loop-one
invariant-loop-one g l = map g.W.Work.number_of_answer l.answers.items
    ≡ map g.W.Work.number_of_answer l.fn.answers.items ++ map (λ b. b.number) l.yielded
