-- What callers may know about claims and their seats.
-- `simulate` does not rest on this file; what claims promise does.
use Rattle.std.specs.Prelude.{◌≡◌, ℕ, ◌+◌}
use Rattle.sim_run_claims.specs.declared.view.SeatView.{SeatView}
use Rattle.sim_run_claims.specs.declared.drawing.Claims.{Claims}
use Rattle.sim_run_claims.specs.declared.drawing.ClaimSeat.{ClaimSeat}

-- the number of numbers to draw
abbrev pub count_of : Claims → ℕ
count_of claims = claims.count

-- the view of a seat
abbrev pub seen : ClaimSeat → SeatView
seen seat = seat.seat.me.0

-- the seat's allowance, used or not
abbrev pub balance : ClaimSeat → ℕ
balance seat = (seen seat).allowance + (seen seat).overdraws

-- The seat belongs to these claims.
abbrev pub IsOf : Claims → ClaimSeat → Type 0
IsOf claims seat = (seat.seat.table_id ≡ claims.table.shared.table_id) × ((seen seat).limit ≡ count_of claims)
