-- The blocks of a design file: each architecture with its entity, names as positions (IEEE 1076-2008, 3, 6.5.7, 11.7).
use Rattle.std.specs.Prelude.{ℕ, Bool, true, false, List, [], ◌∷◌, ◌++◌, map, length, slice_set, Option, Some, None}
use Rattle.std.specs.List.{range_with_len}
use Rattle.sim_logic.specs.declared.logic.Logic.{Logic}
use Rattle.sim_logic.specs.declared.logic.Logic.TheVariants.{U}
use Rattle.sim_text_tree.specs.Name.{Name}
use Rattle.sim_text_tree.specs.declared.declaration.Mode.{Mode}
use Rattle.sim_text_tree.specs.declared.declaration.Mode.TheVariants.{In, Out, Inout}
use Rattle.sim_text_tree.specs.declared.declaration.Initial.{Initial}
use Rattle.sim_text_tree.specs.declared.declaration.Initial.TheVariants as initial
use Rattle.sim_text_tree.specs.declared.declaration.Declaration.{Declaration}
use Rattle.sim_text_tree.specs.declared.declaration.Declaration.TheVariants as declaration
use Rattle.sim_text_tree.specs.declared.declaration.PortDeclaration.{PortDeclaration}
use Rattle.sim_text_tree.specs.declared.unit.Actual.{Actual}
use Rattle.sim_text_tree.specs.declared.unit.Actual.TheVariants as actual
use Rattle.sim_text_tree.specs.declared.unit.Architecture.{Architecture}
use Rattle.sim_text_tree.specs.declared.unit.Association.{Association}
use Rattle.sim_text_tree.specs.declared.unit.Concurrent.{Concurrent}
use Rattle.sim_text_tree.specs.declared.unit.Concurrent.TheVariants as concurrent
use Rattle.sim_text_tree.specs.declared.unit.Entity.{Entity}
use Rattle.sim_text_tree.specs.declared.unit.Instance as tree
use Rattle.sim_flat_scope.specs.declared.scope.Meaning.{Meaning}
use Rattle.sim_flat_scope.specs.declared.scope.Meaning.TheVariants as m
use Rattle.sim_flat_scope.specs.Scopes.{Lookup, Region, means}
use Rattle.sim_flat_scope.specs.Ports.{Port, ports_of}
use Rattle.sim_flat_scope.specs.Regions.{architecture_region, ports_region}
use Rattle.sim_flat_instances.specs.Instances.{architecture_place, entity_name}
use Rattle.sim_flat_instances.specs.Libraries.{Library, declared_ports, entity_of, interface_of}
use Rattle.sim_flat_instances.specs.PortMaps.{associated}
use Rattle.sim_flat_blocks.specs.Below.{object_count}
use Rattle.sim_flat_blocks.specs.BlockProcesses.{translated_assignment, translated_process}
use Rattle.sim_flat_blocks.specs.declared.links.Link.{Link}
use Rattle.sim_flat_blocks.specs.declared.links.Link.TheVariants as link
use Rattle.sim_flat_blocks.specs.declared.parts.Object.{Object}
use Rattle.sim_flat_blocks.specs.declared.parts.Port as block_port
use Rattle.sim_flat_blocks.specs.declared.parts.BlockProcess.{BlockProcess}
use Rattle.sim_flat_blocks.specs.declared.parts.Instance.{Instance}
use Rattle.sim_flat_blocks.specs.declared.parts.Block.{Block}
use Rattle.sim_flat_blocks.specs.Blocks.{no_block}

-- ---- names

-- The meanings of names in an architecture with this region, which no other encloses. No text without faults declares the name
-- of a type, so a type mark has the same meaning there as at its declaration.
abbrev pub seen : Region → Lookup
seen region = means [] region

-- ---- ports and signals

-- whether a mark denotes a resolved subtype: std_logic (6.3)
unfoldable pub is_resolved : Option Meaning → Bool
is_resolved (Some (m.LogicMark resolved)) = resolved
is_resolved _ = false

-- the default value of a signal or port: as declared, otherwise 'U', the leftmost of its type (6.4.2.3, 6.5.2)
unfoldable pub default_of : Option Initial → Logic
default_of (Some (initial.Literal value at)) = value
default_of _ = U

-- the signal or port with this name, type mark and initial value
abbrev pub object : Lookup → Name → Option Initial → Name → Object
object look mark first n = record { name = n; resolved = is_resolved (look mark.text); default = default_of first }

-- whether a port with this mode is a source of its actual (6.5.2)
abbrev pub drives : Mode → Bool
drives In = false
drives Out = true
drives Inout = true

-- a port
abbrev pub port : Lookup → Port → block_port.Port
port look p = record { object = object look p.mark p.initial p.name; drives = drives p.mode }

-- The ports that an entity declares, which its architectures share. Type marks are looked up in the region of these ports.
unfoldable pub block_ports : List PortDeclaration → List block_port.Port
block_ports declared = map (port (seen (ports_region [] declared))) (ports_of declared)

-- the ports of each entity of a library, by the entity's position
unfoldable pub shared_ports : Library → List (List block_port.Port)
shared_ports l = map block_ports (declared_ports l.entities)

-- the signals of a declaration
abbrev pub signals_declared : Lookup → Declaration → List Object
signals_declared look (declaration.Signal o) = map (object look o.mark o.initial) o.names
signals_declared look (declaration.Component c) = []

-- the signals of declarations
unfoldable pub signals_of : Lookup → List Declaration → List Object
signals_of look [] = []
signals_of look (d ∷ ds) = signals_declared look d ++ signals_of look ds

-- ---- processes

-- the process of a concurrent statement, if any, in an architecture with this number of ports and signals (11.3, 11.6)
abbrev pub block_process_in : Region → ℕ → Concurrent → List BlockProcess
block_process_in region objects (concurrent.Assignment a) = translated_assignment region objects a ∷ []
block_process_in region objects (concurrent.Process p) = translated_process region objects p ∷ []
block_process_in region objects (concurrent.Instance i) = []

-- the processes of an architecture
unfoldable pub block_processes_of : Region → ℕ → List Concurrent → List BlockProcess
block_processes_of region objects [] = []
block_processes_of region objects (c ∷ cs) = block_process_in region objects c ++ block_processes_of region objects cs

-- ---- instances

-- the actual of a port, from the meaning of its name: a port or signal by position
unfoldable pub link_to : Option Meaning → Link
link_to (Some (m.Port object mode type)) = link.To object
link_to (Some (m.Signal object type)) = link.To object
link_to _ = link.Open

-- the actual of a port (6.5.7)
unfoldable pub link_of : Lookup → Option Actual → Link
link_of look (Some (actual.Named n)) = link_to (look n.text)
link_of look (Some (actual.Literal value at)) = link.Constant value
link_of look (Some (actual.Open at)) = link.Open
link_of look None = link.Open

-- links with one more, at the position of a port if there is one
abbrev pub put_at : Option ℕ → Link → List Link → List Link
put_at None l links = links
put_at (Some place) l links = slice_set links place l

-- the link of each of these ports, by position
unfoldable pub links_of : Lookup → List Port → List Association → List Link
links_of look ports associations = map (λ place. link_of look (associated ports associations place)) (range_with_len 0 (length ports))

-- optional ports
abbrev pub ports_known : Option (List Port) → List Port
ports_known None = []
ports_known (Some ports) = ports

-- the links of the ports of an instance of the architecture at this position, which are the ports of its entity
unfoldable pub links_at : Library → Lookup → Option ℕ → tree.Instance → List Link
links_at l look None i = []
links_at l look (Some place) i = links_of look (ports_known (interface_of l (entity_name i.unit).text)) i.associations

-- the number of a block; an instance without an architecture, in a text with a fault, gets the last one, which is empty
unfoldable pub block_number : Library → Option ℕ → ℕ
block_number l None = length l.architectures
block_number l (Some place) = place

-- an instance (11.7)
unfoldable pub instance_of : Library → Lookup → tree.Instance → Instance
instance_of l look i =
    let place = architecture_place l i.unit in
    record { label = i.label; at = (entity_name i.unit).at; block = block_number l place; links = links_at l look place i }

-- the instance of a concurrent statement, if it is one
abbrev pub instance_in : Library → Lookup → Concurrent → List Instance
instance_in l look (concurrent.Assignment a) = []
instance_in l look (concurrent.Process p) = []
instance_in l look (concurrent.Instance i) = instance_of l look i ∷ []

-- the instances of an architecture
unfoldable pub instances_of : Library → Lookup → List Concurrent → List Instance
instances_of l look [] = []
instances_of l look (c ∷ cs) = instance_in l look c ++ instances_of l look cs

-- ---- blocks

-- the ports that an entity declares; none if it does not exist
abbrev pub ports_declared : Option Entity → List PortDeclaration
ports_declared None = []
ports_declared (Some e) = e.ports

-- the ports that the entity with this name declares
unfoldable pub ports_named : Library → List ℕ → List PortDeclaration
ports_named l n = ports_declared (entity_of l n)

-- an architecture with its entity (3.2, 3.3)
unfoldable pub block_of : Library → Architecture → Block
block_of l a =
    let declared = ports_named l a.entity.text in
    let region = architecture_region declared a.declarations a.statements in
    record {
      ports = block_ports declared;
      signals = signals_of (seen region) a.declarations;
      processes = block_processes_of region (object_count declared a.declarations) a.statements;
      instances = instances_of l (seen region) a.statements;
    }

-- the blocks of a library: one for each architecture, by position, and finally an empty one
unfoldable pub blocks_of : Library → List Block
blocks_of l = map (block_of l) l.architectures ++ no_block ∷ []
