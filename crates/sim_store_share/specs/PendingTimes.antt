-- The times of drivers, as far as they are known.
-- Implementation only: what `simulate` promises does not rest on this file.
use Rattle.std.specs.Prelude.{ℕ, ◌≡◌, List, Bool, false, Option}
use Rattle.sim_containers.specs.Numbers.{is_in}
use Rattle.sim_containers.specs.Times.{time_of}

-- for each driver a time or none, and whether it is stale
pub record Pending : Type 0 where
  pub queue : List (Option ℕ)
  pub stale : List Bool

-- These are the times of the drivers that are not stale.
abbrev pub AreTimes : Pending → (ℕ → Option ℕ) → Type 0
AreTimes p times = (d : ℕ) → is_in p.stale d ≡ false → time_of p.queue d ≡ times d
