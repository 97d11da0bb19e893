-- What a refusal of the store means to a worker, and what a worker draws.
-- Implementation only: what `simulate` promises does not rest on this file.
use Rattle.std.specs.Prelude.{◌≡◌, ℕ, List, Option, Some, Result, Ok, Err, MatchOption, slice_get}
use Rattle.sim_run_claims.specs.declared.view.SeatView.{SeatView}
use Rattle.sim_run_claims.specs.Views.{overdrawn, with_number}
use Rattle.sim_store.specs.declared.error.StoreError.{StoreError}
use Rattle.sim_store.specs.declared.error.StoreError.TheVariants as error
use Rattle.sim_run_workers.specs.declared.worker.Fault.{Fault}
use Rattle.sim_run_workers.specs.declared.worker.Fault.TheVariants as fault

-- the meaning of a store's refusal to a worker: the store is another one, or memory ran out; else others have carried on the run
abbrev pub meaning_of : StoreError → Result (Unit {0}) Fault
meaning_of error.Foreign = Err fault.Stranger
meaning_of error.Memory = Err fault.Memory
meaning_of _ = Ok tt

-- An index into the list of those that are due was drawn, and gives the process there; or none, which is an overdraw.
abbrev pub DrawsProcess : List ℕ → SeatView → Option ℕ → SeatView → Type 0
DrawsProcess due before found after =
    MatchOption found (after ≡ overdrawn before) (λ process. (place : ℕ) × (slice_get due place ≡ Some process) × (after ≡ with_number before place))
