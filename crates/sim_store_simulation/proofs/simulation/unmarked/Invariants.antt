use Rattle.std.proofs.Common.{ℕ, ◌≡◌, not, take}
use Rattle.std.specs.List.{filter}
use Rattle.sim_store_simulation.specs.Simulation.{those_in}
use Rattle.sim_store_simulation.proofs.simulation.unmarked.Given as goal

abbrev pub invariant-loop-number : goal.invariant-loop-number
invariant-loop-number l = l.numbers.items ≡ filter (λ (p : ℕ). not (those_in l.marked p)) (take l.number-index l.number-items)
