-- How large a flat design may be.
use Rattle.std.specs.Prelude.{ℕ, ◌≤◌}
use Rattle.sim_flat_design.specs.Designs.{most}

-- the largest number of nets, of processes and of drivers, and that of instances
pub record Limits : Type 0 where
  pub objects : ℕ
  pub instances : ℕ

-- No design with more than the largest numbers is allowed.
pub record AreBounded (limits : Limits) : Type 0 where
  pub objects : limits.objects ≤ most
  pub instances : limits.instances ≤ most

-- the limits where none are chosen
abbrev pub standard : Limits
standard = record { objects = 65536; instances = 16384 }

-- the largest limits
abbrev pub large : Limits
large = record { objects = most; instances = most }
