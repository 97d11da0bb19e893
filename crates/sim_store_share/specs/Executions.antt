-- The result of executing a body, and whether an execution failed.
-- Implementation only: what `simulate` promises does not rest on this file.
use Rattle.std.specs.Prelude.{ℕ, ◌≡◌, ◌<◌, Bool, false, Result, Ok, Err, IfOk, OnOk, length}
use Rattle.sim_exec_statements.specs.Ready.{IsReady}
use Rattle.sim_standard.specs.State.{Owned, driver_values}
use Rattle.sim_exec_code.specs.Codes.{FitsAll}
use Rattle.sim_store_share.specs.InTurn.{IsReading, left_by, process_in}
use Rattle.sim_store_share.specs.declared.reading.Reading.{Reading}

-- The process with a number, which owns this, can be executed on a frame with this many slots.
pub record IsBodyReady (r : Reading) (n slots : ℕ) (own : Owned) : Type 0 where
  pub reading : IsReading r
  pub frame : FitsAll r.codes.now.codes slots
  pub number : n < length r.processes.now
  pub ready : IsReady (process_in r n).body r.time own

-- Where it succeeded, the process with a number owns what its execution leaves, with the same drivers if nothing was done. What it owns still fits its
-- body, and its drivers have the values that they had.
pub record IsBodyExecuted {E : Type 0} (r : Reading) (n : ℕ) (done : Result Bool E) (old new : Owned) : Type 0 where
  pub ok : OnOk done (new ≡ left_by r n old)
  pub idle : IfOk done (λ d. d ≡ false → new.drivers ≡ old.drivers)
  pub ready : IsReady (process_in r n).body r.time new
  pub values : driver_values new.drivers ≡ driver_values old.drivers

-- the result without what it says besides
abbrev pub without_value : {E : Type 0} → Result Bool E → Result Unit E
without_value (Ok done) = Ok tt
without_value (Err e) = Err e
