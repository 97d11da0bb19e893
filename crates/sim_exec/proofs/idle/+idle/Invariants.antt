use Rattle.std.proofs.Common.{ℕ, ◌≡◌, map, drop}
use Rattle.sim_standard.specs.State.{Owned}
use Rattle.sim_standard.specs.Statements.{own_steps, statement_done, in_turn}
use Rattle.sim_exec.proofs.idle.+idle.Given as goal

-- no statement so far assigns anything
abbrev pub invariant-assign_nothing-loop-statement : goal.invariant-assign_nothing-loop-statement
invariant-assign_nothing-loop-statement g l =
    (now : ℕ) (own : Owned) → own.variables ≡ l.variables
    → in_turn (map (statement_done (own_steps (g.N.Nets.look l.nets) now)) l.fn.statements) own
    ≡ in_turn (map (statement_done (own_steps (g.N.Nets.look l.nets) now)) (drop l.statement-index l.statements)) own
