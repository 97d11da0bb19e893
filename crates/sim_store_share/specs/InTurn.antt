-- Processes of a share that are executed one after another.
-- Implementation only: what `simulate` promises does not rest on this file.
use Rattle.std.specs.Prelude.{ℕ, ◌+◌, ◌-◌, ◌≡◌, ◌≢◌, ◌<◌, ◌≤◌, List, [], ◌∷◌, length, take, slice_index_or, slice_set}
use Rattle.sim_logic.specs.Time.{largest_time}
use Rattle.sim_flat_design.specs.Bodies.{Body}
use Rattle.sim_flat_design.specs.Processes.{Process}
use Rattle.sim_exec_statements.specs.Ready.{IsReady}
use Rattle.sim_exec_code.specs.Codes.{Coded, AreCodesOf, code_at}
use Rattle.sim_exec_code.specs.Quick.{DoesAs}
use Rattle.sim_exec_code.specs.declared.quick.SingleAssignment.{SingleAssignment}
use Rattle.sim_standard.specs.Processes.{object_net, process_at}
use Rattle.sim_standard.specs.State.{Owned, all_drivers, driver_values, net_at, owned_at}
use Rattle.sim_standard.specs.Statements.{executed}
use Rattle.sim_standard.specs.declared.net_view.NetView.{NetView}
use Rattle.sim_store_share.specs.declared.reading.Reading.{Reading}
use Rattle.sim_store_nets.specs.Nets.{views_of}

-- the nets that are read
abbrev pub nets_in : Reading → List NetView
nets_in r = views_of r.nets.values.now r.nets.values_before.now

-- the process with a number
abbrev pub process_in : Reading → ℕ → Process
process_in r n = process_at r.processes.now n

-- The codes are those of the processes, and the time is in range.
pub record IsReading (r : Reading) : Type 0 where
  pub time : r.time ≤ largest_time
  pub codes : AreCodesOf r.processes.now r.codes.now

-- what the process with a number leaves of what it owns
abbrev pub left_by : Reading → ℕ → Owned → Owned
left_by r n own = executed (λ (object : ℕ). net_at (nets_in r) (object_net (process_in r n) object)) r.time (process_in r n).body.statements own

-- what all own once the process with a number has been executed
abbrev pub after_one : Reading → List Owned → ℕ → List Owned
after_one r owned n = slice_set owned (n - r.first) (left_by r n (owned_at owned (n - r.first)))

-- The process with a number is one of the share, and what it owns fits its body.
pub record IsExecutable (r : Reading) (owned : List Owned) (n : ℕ) : Type 0 where
  pub from : r.first ≤ n
  pub number : n < length r.processes.now
  pub owns : n - r.first < length owned
  pub ready : IsReady (process_in r n).body r.time (owned_at owned (n - r.first))

-- These processes have been executed in this order. What each owns then still fits its body.
abbrev pub AreExecuted : Reading → List ℕ → List Owned → List Owned → Type 0
AreExecuted r [] old new = new ≡ old
AreExecuted r (n ∷ numbers) old new =
    IsReady (process_in r n).body r.time (owned_at (after_one r old n) (n - r.first)) × AreExecuted r numbers (after_one r old n) new

-- The process at a place is not among these.
abbrev pub IsOther : Reading → List ℕ → ℕ → Type 0
IsOther r numbers p = (k : ℕ) → k < length numbers → slice_index_or numbers k 0 ≢ r.first + p

-- All processes but these own what they owned, what each owns still fits its body, and all drivers have the values that they had.
pub record AreKept (r : Reading) (numbers : List ℕ) (old new : List Owned) : Type 0 where
  pub sized : length new ≡ length old
  pub others : (p : ℕ) → IsOther r numbers p → owned_at new p ≡ owned_at old p
  pub ready : (p : ℕ) (body : Body) → IsReady body r.time (owned_at old p) → IsReady body r.time (owned_at new p)
  pub values : driver_values (all_drivers new) ≡ driver_values (all_drivers old)

-- ---- what functions that execute some of these processes tell each other

-- The body of the process with a number is this assignment.
abbrev pub IsBodyAt : Coded → ℕ → SingleAssignment → Type 0
IsBodyAt c n q = DoesAs (code_at c.codes n) (slice_index_or c.nets n []) q

-- So many of these processes, from the first on, have been executed.
pub record IsTurn (r : Reading) (numbers : List ℕ) (old new : List Owned) (count : ℕ) : Type 0 where
  pub within : count ≤ length numbers
  pub done : AreExecuted r (take count numbers) old new
