use Rattle.std.proofs.Common.{ℕ, List, Option, ◌≡◌, take}
use Rattle.std.specs.List.{All}
use Rattle.sim_exec_code.specs.declared.edges.NetEdge.{NetEdge}
use Rattle.sim_exec_code.specs.Codes.{AreAlike, edge_at}
use Rattle.sim_exec_code.proofs.edges.count_alike.Given as goal

-- those so far are alike
abbrev pub invariant-loop-place : goal.invariant-loop-place
invariant-loop-place l = (edges : List (Option NetEdge)) → AreAlike edges l.alike
    → All (λ (n : ℕ). edge_at edges n ≡ edge_at edges l.number) (take l.place l.numbers)
