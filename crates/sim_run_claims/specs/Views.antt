-- The view of a seat: what it has drawn, and how a draw, a split and a join change that.
-- `simulate` does not rest on this file; what claims promise does.
use Rattle.std.specs.Prelude.{◌≡◌, ℕ, ◌+◌, ◌-◌, ◌/◌, ◌<◌, List, [], ◌∷◌, ◌++◌, Option, MatchOption}
use Rattle.sim_run_claims.specs.declared.view.SeatView.{SeatView}

abbrev pub view_of : List ℕ → ℕ → ℕ → ℕ → SeatView
view_of drawn allowance overdraws limit = record { drawn = drawn; allowance = allowance; overdraws = overdraws; limit = limit }

-- the first seat
abbrev pub first_view : ℕ → SeatView
first_view count = view_of [] 64 0 count

-- a seat after it drew a number
abbrev pub with_number : SeatView → ℕ → SeatView
with_number v number = view_of (v.drawn ++ number ∷ []) v.allowance v.overdraws v.limit

-- a seat after a draw in vain
abbrev pub overdrawn : SeatView → SeatView
overdrawn v = view_of v.drawn (v.allowance - 1) (v.overdraws + 1) v.limit

-- a seat after it was split
abbrev pub kept_half : SeatView → SeatView
kept_half v = view_of v.drawn (v.allowance - v.allowance / 2) v.overdraws v.limit

-- the new seat of a split
abbrev pub handed_half : SeatView → SeatView
handed_half v = view_of [] (v.allowance / 2) 0 v.limit

-- a seat after it took over another one
abbrev pub joined : SeatView → SeatView → SeatView
joined v other = view_of (v.drawn ++ other.drawn) (v.allowance + other.allowance) (v.overdraws + other.overdraws) v.limit

-- what is left of that other one
abbrev pub spent_view : SeatView
spent_view = view_of [] 0 0 0

-- A draw gives a number below the count, which is added to those drawn, or none, which is an overdraw.
abbrev pub Draw : ℕ → SeatView → Option ℕ → SeatView → Type 0
Draw count before found after = MatchOption found (after ≡ overdrawn before) (λ number. (number < count) × (after ≡ with_number before number))
