-- Flat designs.
use Rattle.std.specs.Prelude.{ℕ, ◌≡◌, ◌≢◌, ◌+◌, ◌<◌, ◌≤◌, ◌^◌, List, [], ◌∷◌, length, slice_get, take, drop}
use Rattle.std.specs.List.{All}
use Rattle.std.specs.Option.{IsSomeAnd}
use Rattle.sim_flat_design.specs.declared.design.DriverOf.{DriverOf}
use Rattle.sim_flat_design.specs.declared.design.Source.{Source}
use Rattle.sim_flat_design.specs.declared.design.Source.TheVariants as source
use Rattle.sim_flat_design.specs.Processes.{Process}

-- a net: its name, and its flat sources, from left to right
pub record Net : Type 0 where
  pub name : List ℕ
  pub sources : List Source

-- The net with this number has this name, and no earlier net has it.
pub record IsFirstNamed (name : List ℕ) (number : ℕ) (nets : List Net) : Type 0 where
  pub named : IsSomeAnd (slice_get nets number) (λ (n : Net). n.name ≡ name)
  pub first : All (λ (n : Net). n.name ≢ name) (take number nets)

-- A flat design: its nets, its processes, and their drivers, each by number (IEEE 1076-2008, 14).
pub record Design : Type 0 where
  pub nets : List Net
  pub processes : List Process
  pub drivers : List DriverOf

-- the largest number of nets, of processes and of drivers that any limits allow
abbrev pub most : ℕ
most = 1000000

-- A source is one of this number of drivers, or a constant.
abbrev pub IsSource : ℕ → Source → Type 0
IsSource drivers (source.Driver n) = n < drivers
IsSource drivers (source.Constant value) = Unit {0}

-- A net has at least one source, and its sources exist.
abbrev pub IsNet : ℕ → Net → Type 0
IsNet drivers n = (n.sources ≢ []) × All (IsSource drivers) n.sources

-- The nets of a process exist.
pub record IsPlaced (nets : ℕ) (p : Process) : Type 0 where
  pub object_nets : All (λ (n : ℕ). n < nets) p.nets
  pub sensitive : All (λ (n : ℕ). n < nets) p.sensitivity

-- A driver belongs to this process, and its net exists.
abbrev pub IsDriverOf : ℕ → ℕ → DriverOf → Type 0
IsDriverOf nets process d = (d.process ≡ process) × (d.net < nets)

-- The drivers from this number are those of the processes from this number, grouped by process.
abbrev pub AreOwned : ℕ → ℕ → ℕ → List Process → List DriverOf → Type 0
AreOwned nets number first [] ds = ds ≡ []
AreOwned nets number first (p ∷ ps) ds =
    (p.first_driver ≡ first) × (p.body.drivers ≤ length ds) × All (IsDriverOf nets number) (take p.body.drivers ds)
    × AreOwned nets (number + 1) (first + p.body.drivers) ps (drop p.body.drivers ds)

-- A design is within its limits, all of its numbers are in range, and each driver belongs to one process.
pub record IsDesign (d : Design) : Type 0 where
  pub nets_bound : length d.nets ≤ most
  pub processes_bound : length d.processes ≤ most
  pub drivers_bound : length d.drivers ≤ most
  pub nets : All (IsNet (length d.drivers)) d.nets
  pub processes : All (IsPlaced (length d.nets)) d.processes
  pub drivers : AreOwned (length d.nets) 0 0 d.processes d.drivers
