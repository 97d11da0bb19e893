-- What a body that is a single assignment leaves of the drivers of its process.
-- Implementation only: what `simulate` promises does not rest on this file.
use Rattle.std.specs.Prelude.{ℕ, ◌≡◌, List, [], ◌∷◌, Option, Result, OnOk}
use Rattle.std.specs.List.{All}
use Rattle.sim_standard.specs.Drivers.{DriverState, next_time}
use Rattle.sim_standard.specs.State.{driver_values}
use Rattle.sim_standard.specs.declared.net_view.NetView.{NetView}
use Rattle.sim_wave.specs.Rising.{RisesFrom}
use Rattle.sim_exec_code.specs.declared.quick.SingleAssignment.{SingleAssignment}
use Rattle.sim_exec_code.specs.Quick.{driven, driver_after}

-- Where it succeeded, its driver was assigned. The driver has the value that it had, and this is its first pending time.
pub record IsAssigned {E : Type 0} (net : ℕ → NetView) (now : ℕ) (q : SingleAssignment) (done : Result Unit E) (next : Option ℕ) (old new : DriverState)
    : Type 0 where
  pub ok : OnOk done (new ≡ driver_after net now q old)
  pub next_is : next ≡ next_time (new ∷ [])
  pub pending : RisesFrom now new.pending
  pub value : new.value ≡ old.value

-- The same of all drivers of its process.
pub record AreAssigned {E : Type 0} (net : ℕ → NetView) (now : ℕ) (q : SingleAssignment) (done : Result Unit E) (old new : List DriverState) : Type 0 where
  pub ok : OnOk done (new ≡ driven net now q old)
  pub pending : All (λ (d : DriverState). RisesFrom now d.pending) new
  pub values : driver_values new ≡ driver_values old
