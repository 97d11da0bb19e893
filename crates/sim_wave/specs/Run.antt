-- Runs of consecutive transactions of equal value.
-- Implementation only: what `simulate` promises does not rest on this file.
use Rattle.std.specs.Prelude.{ℕ, ◌≤◌, ◌<◌, ◌≡◌, List}
use Rattle.sim_logic.specs.declared.logic.Logic.{Logic}
use Rattle.sim_standard.specs.Drivers.{Transaction, transaction_at}

-- the transactions from `start` up to `end` have this value
abbrev pub IsRun : List Transaction → ℕ → ℕ → Logic → Type 0
IsRun transactions start end value = (k : ℕ) → start ≤ k → k < end → (transaction_at transactions k).1 ≡ value
