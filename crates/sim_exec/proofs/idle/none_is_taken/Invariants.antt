use Rattle.std.proofs.Common.{ℕ, ◌≡◌, map, drop}
use Rattle.sim_standard.specs.State.{Owned}
use Rattle.sim_standard.specs.Statements.{own_steps, branch_done, if_taken}
use Rattle.sim_exec_statements.specs.Branches.{one_holds}
use Rattle.sim_exec.proofs.idle.none_is_taken.Given as goal

-- no branch so far is taken, nor does the condition of one hold
abbrev pub invariant-loop-branch : goal.invariant-loop-branch
invariant-loop-branch g l =
    ((now : ℕ) (otherwise : Owned → Owned) (own : Owned) → own.variables ≡ l.variables
    → if_taken (map (branch_done (own_steps (g.N.Nets.look l.nets) now)) l.fn.branches) otherwise own
    ≡ if_taken (map (branch_done (own_steps (g.N.Nets.look l.nets) now)) (drop l.branch-index l.branches)) otherwise own)
    × ((now : ℕ) (own : Owned) → own.variables ≡ l.variables
    → one_holds (g.N.Nets.look l.nets) now l.fn.branches own ≡ one_holds (g.N.Nets.look l.nets) now (drop l.branch-index l.branches) own)
