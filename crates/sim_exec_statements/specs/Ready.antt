-- When a process can be executed: what it owns fits its body.
-- `simulate` does not rest on this file; what a store shows under a lock does.
use Rattle.std.specs.Prelude.{ℕ, ◌≡◌, Bool, true, false, map, length}
use Rattle.std.specs.List.{All}
use Rattle.sim_flat_design.specs.declared.held.Held.{Held}
use Rattle.sim_flat_design.specs.declared.held.Held.TheVariants as held
use Rattle.sim_flat_design.specs.Bodies.{Body}
use Rattle.sim_standard.specs.Drivers.{DriverState}
use Rattle.sim_standard.specs.State.{Owned}
use Rattle.sim_wave.specs.Rising.{RisesFrom}

-- whether a variable is of type std_ulogic
abbrev pub holds_bit : Held → Bool
holds_bit (held.Bit value) = true
holds_bit (held.Truth value) = false

-- What a process owns fits its body: its drivers, and its variables, each of its type. Nothing is pending before a time.
pub record IsReady (body : Body) (from : ℕ) (own : Owned) : Type 0 where
  pub drivers : length own.drivers ≡ body.drivers
  pub variables : map holds_bit own.variables ≡ map holds_bit body.variables
  pub pending : All (λ (d : DriverState). RisesFrom from d.pending) own.drivers
