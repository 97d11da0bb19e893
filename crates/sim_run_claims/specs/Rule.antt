-- The rule of the table, which holds between any two steps of any threads, and what a step says to its thread.
-- `simulate` does not rest on this file; what claims promise does.
use Rattle.std.specs.Prelude.{◌≡◌, ℕ, ◌<◌, ◌≤◌, [], ◌∷◌}
use Rattle.atomic_table.specs.Table.{State, Me, Step}
use Rattle.sim_run_claims.specs.declared.view.SeatView.{SeatView}
use Rattle.sim_run_claims.specs.Lawful.{IsLawful}
use Rattle.sim_run_claims.specs.Views.{with_number, overdrawn}

-- There is one word, and it is lawful with the views of all seats.
pub record Holds (count : ℕ) (table : State ℕ SeatView) : Type 0 where
  pub word : ℕ
  pub words : table.words ≡ word ∷ []
  pub few : count ≤ 1000000
  pub lawful : IsLawful count word table.views

-- The word was incremented: a number found below the limit is drawn, any other is an overdraw.
abbrev pub Drew : Step ℕ → Me ℕ SeatView → ℕ → Me ℕ SeatView → Type 0
Drew step before found after =
    (after.1 ≡ before.1)
    × (found < before.0.limit → after.0 ≡ with_number before.0 found)
    × (before.0.limit ≤ found → after.0 ≡ overdrawn before.0)

-- The word was read: the seat's allowance is at most the whole one.
abbrev pub Looked : Step ℕ → Me ℕ SeatView → ℕ → Me ℕ SeatView → Type 0
Looked step before found after = (after ≡ before) × (before.0.allowance ≤ 64)
