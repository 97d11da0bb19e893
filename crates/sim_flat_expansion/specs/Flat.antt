-- The flat design of a hierarchy, in its own terms (IEEE 1076-2008, 14).
use Rattle.std.specs.Prelude.{ℕ, zero, suc, ◌+◌, ◌==◌, ◌&&◌, List, [], ◌∷◌, ◌++◌, Bool, true, false, if◌then◌else◌, map, length, slice_index_or}
use Rattle.sim_logic.specs.Sources.{SignalType, Std_logic, Std_ulogic, SourceTree, Name, Sources, No_more, Driver, Port, FlatSource, Driven, flat_sources}
use Rattle.sim_logic.specs.Sources as tree
use Rattle.sim_flat_design.specs.declared.design.DriverOf.{DriverOf}
use Rattle.sim_flat_design.specs.declared.design.Source.{Source}
use Rattle.sim_flat_design.specs.declared.design.Source.TheVariants as source
use Rattle.sim_flat_design.specs.Designs.{Net, Design}
use Rattle.sim_flat_design.specs.Processes.{Process}
use Rattle.sim_flat_blocks.specs.declared.links.Link.{Link}
use Rattle.sim_flat_blocks.specs.declared.links.Link.TheVariants.{To, Constant, Open}
use Rattle.sim_flat_blocks.specs.declared.parts.Object.{Object}
use Rattle.sim_flat_blocks.specs.declared.parts.Port as port
use Rattle.sim_flat_blocks.specs.declared.parts.BlockProcess.{BlockProcess}
use Rattle.sim_flat_blocks.specs.declared.parts.Instance.{Instance}
use Rattle.sim_flat_blocks.specs.declared.parts.Block.{Block}
use Rattle.sim_flat_blocks.specs.Blocks.{size, block_of, no_block, link_at, constant_at, below, driver_of, process_of, levels, targets_of}
use Rattle.sim_flat_expansion.specs.Hierarchy.{Path, Occurrence, occurrences, link_of, net_object, Own, own_at, process_count, driver_count, before, net_number}

-- ---- processes and drivers, by occurrence, then in textual order

-- the nets of this many ports and signals, from this position
unfoldable pub object_nets_from : List Occurrence → Path → ℕ → ℕ → List ℕ
object_nets_from all p n zero = []
object_nets_from all p n (suc k) = net_number all (net_object p n) ∷ object_nets_from all p (n + 1) k

abbrev pub object_nets_at : List Occurrence → Occurrence → List ℕ
object_nets_at all s = object_nets_from all s.path 0 (size s.block)

-- the processes, where the first driver has this number
unfoldable pub processes_from : List ℕ → ℕ → List BlockProcess → List Process
processes_from object_nets first [] = []
processes_from object_nets first (t ∷ ts) = process_of object_nets first t ∷ processes_from object_nets (first + length t.targets) ts

-- the drivers, where the first process has this number
unfoldable pub drivers_from : List ℕ → Block → ℕ → List BlockProcess → List DriverOf
drivers_from object_nets b process [] = []
drivers_from object_nets b process (t ∷ ts) = map (driver_of object_nets b process) t.targets ++ drivers_from object_nets b (process + 1) ts

abbrev pub processes_at : List Occurrence → Occurrence → List Process
processes_at all s = processes_from (object_nets_at all s) (before driver_count all s.path) s.block.processes

abbrev pub drivers_at : List Occurrence → Occurrence → List DriverOf
drivers_at all s = drivers_from (object_nets_at all s) s.block (before process_count all s.path) s.block.processes

-- ---- sources: the drivers of a port or signal, then the ports of instances that drive and are associated with it (6.4.2.3)

-- the numbers of the drivers of the object at position n, where the drivers of these targets are counted from i
unfoldable pub driving : ℕ → ℕ → List ℕ → List ℕ
driving n i [] = []
driving n i (t ∷ ts) = if t == n then i ∷ driving n (i + 1) ts else driving n (i + 1) ts

abbrev pub drivers_of : List Occurrence → Path → Block → ℕ → List ℕ
drivers_of all p b n = driving n (before driver_count all p) (targets_of b.processes)

abbrev pub with_ports : List SourceTree → Sources
with_ports [] = No_more
with_ports (t ∷ ts) = tree.Port t (with_ports ts)

abbrev pub with_drivers : List ℕ → Sources → Sources
with_drivers [] more = more
with_drivers (n ∷ ns) more = tree.Driver n (with_drivers ns more)

abbrev pub type_of : Bool → SignalType
type_of true = Std_logic
type_of false = Std_ulogic

abbrev pub leads_to : ℕ → Link → Bool
leads_to m (To n) = n == m
leads_to m (Constant value) = false
leads_to m Open = false

-- the trees of the ports that are sources of the object at position m of the enclosing architecture
unfoldable pub of_ports : (ℕ → Object → SourceTree) → List Link → ℕ → ℕ → List port.Port → List SourceTree
of_ports one links m n [] = []
of_ports one links m n (p ∷ ps) =
    if p.drives && leads_to m (link_at links n) then one n p.object ∷ of_ports one links m (n + 1) ps else of_ports one links m (n + 1) ps

-- the same for each instance, in textual order
unfoldable pub of_instances : (Path → Block → List Link → ℕ → List SourceTree) → List Block → Path → ℕ → ℕ → List Instance → List SourceTree
of_instances one blocks p m j [] = []
of_instances one blocks p m j (i ∷ is) =
    one (record { instance = i; place = j } ∷ p) (block_of blocks i) i.links m ++ of_instances one blocks p m (j + 1) is

-- a flat source of a net
abbrev pub source_of : FlatSource → Source
source_of (Driven n) = source.Driver n
source_of (tree.Constant value) = source.Constant value

-- the prefix of a path: each label followed by `.`
abbrev pub prefix : Path → List ℕ
prefix [] = []
prefix (s ∷ up) = below (prefix up) s.instance.label.text

module _ (blocks : List Block) (all : List Occurrence) where
  -- the tree of the port or signal at a position, given a function for the trees of a block's ports
  abbrev pub tree_of : (Path → Block → List Link → ℕ → List SourceTree) → Path → Block → ℕ → Object → SourceTree
  tree_of one p b n o =
      Name (type_of o.resolved) (constant_at (link_of p n) o.default)
      (with_drivers (drivers_of all p b n) (with_ports (of_instances one blocks p n 0 b.instances)))

  -- the trees of the ports of a block that are sources of the object at position m around it, to this many levels
  unfoldable pub port_trees : ℕ → Path → Block → List Link → ℕ → List SourceTree
  port_trees zero p b links m = []
  port_trees (suc k) p b links m = of_ports (tree_of (port_trees k) p b) links m 0 b.ports

  abbrev pub net : Occurrence → Own → Net
  net s x = record {
    name = prefix s.path ++ x.object.name.text;
    sources = map source_of (flat_sources (tree_of (port_trees s.levels) s.path s.block x.place x.object));
  }

  abbrev pub nets_at : Occurrence → List Net
  nets_at s = map (net s) (own_at s)

-- ---- the design
abbrev pub gather : {X Y : Type 0} → (X → List Y) → List X → List Y
gather f [] = []
gather f (x ∷ xs) = f x ++ gather f xs

-- the occurrences from the top
unfoldable pub occurrences_of : List Block → ℕ → List Occurrence
occurrences_of blocks top = occurrences blocks levels [] (slice_index_or blocks top no_block)

unfoldable pub flat : List Block → ℕ → Design
flat blocks top =
    let all = occurrences_of blocks top in
    record { nets = gather (nets_at blocks all) all; processes = gather (processes_at all) all; drivers = gather (drivers_at all) all }
