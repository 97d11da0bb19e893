use Rattle.std.proofs.Common.{List, length, ◌-◌, ℕ, ◌<◌, ◌≤◌, ◌+◌, take}
use Rattle.std.specs.List.{All}
use Rattle.sim_store_state.proofs.execution.count_within.Given as goal

pub record AreWithin (numbers : List ℕ) (first count place : ℕ) : Type 0 where
  pub within : place ≤ length numbers
  pub each : All (λ (n : ℕ). (first ≤ n) × (n < first + count)) (take place numbers)

abbrev pub invariant-loop-place : goal.invariant-loop-place
invariant-loop-place l = AreWithin l.numbers l.first l.count l.place

abbrev pub decreases-loop-place : goal.decreases-loop-place
decreases-loop-place l = length l.numbers - l.place
