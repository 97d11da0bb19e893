-- The numbers of the marked processes, one after another.
use Rattle.std.proofs.Common.{ℕ, ◌≤◌, Bool, List, length, sym, subst}
use Rattle.sim_standard.proofs.Numbers.{counted-few, ranged}
use Rattle.sim_store_simulation.specs.Simulation.{listed, those_in}

-- There are no more of them than marks.
pub listed-few : (marks : List Bool) → length (listed marks) ≤ length marks
listed-few marks =
    subst (λ (ns : List ℕ). length ns ≤ length marks) (sym (ranged (those_in marks) 0 (length marks))) (counted-few (those_in marks) 0 (length marks))
