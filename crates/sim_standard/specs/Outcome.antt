-- How a run ends (IEEE 1076-2008, 14.7.5.1, 14.7.5.3 a, h). By a), simulation is complete when the time of the next cycle is TIME'HIGH, and no driver is active
-- and no process resumes then. Here the stop time takes the place of TIME'HIGH; cycles at the stop time itself are carried out.
use Rattle.std.specs.Prelude.{ℕ, ◌≡◌, ◌<◌, ◌≤◌, ⊤, Option, Some, IsSomeAnd}
use Rattle.sim_standard.specs.Cycle.{Following, NothingPending, CycleAt, PostponedDelta}

-- Simulation is complete: nothing follows up to the stop time.
abbrev pub IsOver : ℕ → Following → Type 0
IsOver stop NothingPending = ⊤
IsOver stop (CycleAt time) = stop < time
IsOver stop PostponedDelta = ⊥

-- The run goes on: a cycle up to the stop time follows.
abbrev pub GoesOn : ℕ → Following → Type 0
GoesOn stop (CycleAt time) = time ≤ stop
GoesOn stop _ = ⊥

-- a run is finished after this number of cycles; a postponed process causes a delta cycle after this number of them; or the run needs more than the limit
pub data Outcome : Type 0 where
  FinishedAfter : ℕ → Outcome
  PostponedDeltaAfter : ℕ → Outcome
  LimitReached : Outcome

-- The outcome of a run, if `next n` follows n cycles: it ends after the least number of cycles after which it does not go on.
abbrev pub HasOutcome : (ℕ → Option Following) → ℕ → ℕ → Outcome → Type 0
HasOutcome next stop limit (FinishedAfter n) = (n ≤ limit) × IsSomeAnd (next n) (IsOver stop) × ((m : ℕ) → m < n → IsSomeAnd (next m) (GoesOn stop))
HasOutcome next stop limit (PostponedDeltaAfter n) = (n ≤ limit) × (next n ≡ Some PostponedDelta) × ((m : ℕ) → m < n → IsSomeAnd (next m) (GoesOn stop))
HasOutcome next stop limit LimitReached = (m : ℕ) → m ≤ limit → IsSomeAnd (next m) (GoesOn stop)
