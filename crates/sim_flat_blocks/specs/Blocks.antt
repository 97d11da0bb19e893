-- Architectures in which names are positions, and when the positions are in range.
use Rattle.std.specs.Prelude.{ℕ, ◌≡◌, ◌+◌, ◌<◌, ◌≤◌, List, [], ◌∷◌, ◌++◌, Option, Some, None, map, length, slice_get, slice_index_or}
use Rattle.std.specs.List.{All}
use Rattle.sim_logic.specs.declared.logic.Logic.{Logic}
use Rattle.sim_logic.specs.declared.logic.Logic.TheVariants.{U}
use Rattle.sim_flat_design.specs.Bodies.{objects_of}
use Rattle.sim_flat_design.specs.Designs.{Design, most}
use Rattle.sim_flat_design.specs.declared.design.DriverOf.{DriverOf}
use Rattle.sim_flat_design.specs.Processes.{Process, rising, nets_of}
use Rattle.sim_flat_blocks.specs.declared.links.Link.{Link}
use Rattle.sim_flat_blocks.specs.declared.links.Link.TheVariants.{To, Constant, Open}
use Rattle.sim_flat_blocks.specs.declared.parts.Object.{Object}
use Rattle.sim_flat_blocks.specs.declared.parts.Port.{Port}
use Rattle.sim_flat_blocks.specs.declared.parts.BlockProcess.{BlockProcess}
use Rattle.sim_flat_blocks.specs.declared.parts.Instance.{Instance}
use Rattle.sim_flat_blocks.specs.declared.parts.Block.{Block}

-- the ports and signals, by position
abbrev pub objects : Block → List Object
objects b = map (λ (p : Port). p.object) b.ports ++ b.signals

-- the number of ports and signals
abbrev pub size : Block → ℕ
size b = length b.ports + length b.signals

abbrev pub no_block : Block
no_block = record { ports = []; signals = []; processes = []; instances = [] }

-- the block of an instance
abbrev pub block_of : List Block → Instance → Block
block_of blocks i = slice_index_or blocks i.block no_block

-- the link of the port at this position; open if it is not a port
abbrev pub link_at : List Link → ℕ → Link
link_at links n = slice_index_or links n Open

abbrev pub default_of : Option Object → Logic
default_of None = U
default_of (Some o) = o.default

-- the default value of the port or signal at this position
abbrev pub default_at : Block → ℕ → Logic
default_at b n = default_of (slice_get (objects b) n)

-- the prefix of the names in an instance: the prefix of the names around it, its label and a `.`
unfoldable pub below : List ℕ → List ℕ → List ℕ
below prefix label = prefix ++ (label ++ 46 ∷ [])

-- the value of an object without sources: its default value, or the associated literal
abbrev pub constant_at : Link → Logic → Logic
constant_at (To m) default = default
constant_at (Constant value) default = value
constant_at Open default = default

-- a driver of this process for the port or signal at this position
abbrev pub driver_of : List ℕ → Block → ℕ → ℕ → DriverOf
driver_of object_nets b process n = record { process = process; net = slice_index_or object_nets n 0; first = default_at b n }

-- the process that an instance makes of a block process
abbrev pub process_of : List ℕ → ℕ → BlockProcess → Process
process_of object_nets first t = record {
  sensitivity = rising (nets_of object_nets t.sensitivity);
  reads = rising (nets_of object_nets (objects_of t.body.statements));
  nets = object_nets;
  first_driver = first;
  postponed = t.postponed;
  body = t.body;
}

-- the number of levels: the top, and 32 below it
abbrev pub levels : ℕ
levels = 33

-- A process of a block: its positions are in range, it has a driver for each target, and it reads what its body reads.
pub record IsBlockProcess (b : Block) (t : BlockProcess) : Type 0 where
  pub objects : t.body.objects ≡ size b
  pub drivers : length t.targets ≡ t.body.drivers
  pub reads : t.reads ≡ rising (objects_of t.body.statements)
  pub sensitivity : All (λ (n : ℕ). n < size b) t.sensitivity
  pub targets : All (λ (n : ℕ). n < size b) t.targets

-- A link leads to one of this number of ports and signals, if it leads to any.
abbrev pub LeadsBelow : ℕ → Link → Type 0
LeadsBelow count (To n) = n < count
LeadsBelow count (Constant value) = Unit {0}
LeadsBelow count Open = Unit {0}

-- An instance in a block: its block exists, it has a link for each port of that block, and the links are in range.
pub record IsInstance (blocks : List Block) (b : Block) (i : Instance) : Type 0 where
  pub known : i.block < length blocks
  pub links : length i.links ≡ length (block_of blocks i).ports
  pub leads : All (LeadsBelow (size b)) i.links

-- A block among these: its processes and instances are in range.
pub record IsBlock (blocks : List Block) (b : Block) : Type 0 where
  pub processes : All (IsBlockProcess b) b.processes
  pub instances : All (IsInstance blocks b) b.instances

-- A design has at most the allowed numbers of nets, processes and drivers.
pub record IsWithinLimits (d : Design) : Type 0 where
  pub nets : length d.nets ≤ most
  pub processes : length d.processes ≤ most
  pub drivers : length d.drivers ≤ most

-- the targets of the drivers of a block, process by process
unfoldable pub targets_of : List BlockProcess → List ℕ
targets_of [] = []
targets_of (t ∷ ts) = t.targets ++ targets_of ts
