-- The entity, architecture and faults of an instance (IEEE 1076-2008, 11.7).
use Rattle.std.specs.Prelude.{ℕ, List, [], ◌∷◌, if◌then◌else◌, Option, Some, None, slice_get, codes}
use Rattle.std.specs.Str.{bytes_eq}
use Rattle.sim_text_tree.specs.Name.{Name}
use Rattle.sim_text_tree.specs.declared.unit.Instance.{Instance}
use Rattle.sim_text_tree.specs.declared.unit.Instantiated.{Instantiated}
use Rattle.sim_text_tree.specs.declared.unit.Instantiated.TheVariants as of
use Rattle.sim_flat_scope.specs.Ports.{Port}
use Rattle.sim_flat_scope.specs.declared.scope.Meaning.{Meaning}
use Rattle.sim_flat_scope.specs.declared.scope.Meaning.TheVariants as m
use Rattle.sim_flat_scope.specs.declared.fault.Kind.{Kind}
use Rattle.sim_flat_scope.specs.declared.fault.Kind.TheVariants as k
use Rattle.sim_flat_scope.specs.declared.fault.Fault.{Fault}
use Rattle.sim_flat_scope.specs.Scopes.{Lookup}
use Rattle.sim_flat_instances.specs.declared.component.Component.{Component}
use Rattle.sim_flat_instances.specs.Libraries.{Library, interface_of, last_architecture, last_named}
use Rattle.sim_flat_instances.specs.PortMaps.{port_map_faults}

-- ---- the entity and the architecture of an instance

-- the name of an instance's entity; a component is bound to the entity with its own name (7.3.3)
abbrev pub entity_name : Instantiated → Name
entity_name (of.Component word c) = c
entity_name (of.Entity library e a) = e

-- the position of the named architecture of an entity, or of its last one if none is named
abbrev pub place_of : Library → Name → Option Name → Option ℕ
place_of l e None = last_architecture l.architectures e.text
place_of l e (Some a) = last_named l.architectures e.text a.text

-- the position of the architecture of an instance
abbrev pub architecture_place : Library → Instantiated → Option ℕ
architecture_place l (of.Component word c) = place_of l c None
architecture_place l (of.Entity library e a) = place_of l e a

-- ---- the fault in the names of the component, entity or architecture: at most one

-- a fault at a name
abbrev pub fault_at : Kind → Name → Option Fault
fault_at kind n = Some (record { kind = kind; at = n.at })

-- where a missing architecture is reported: at its name, if written, otherwise at that of the entity
abbrev pub missed_at : Name → Option Name → Name
missed_at e None = e
missed_at e (Some a) = a

-- the fault of an entity without this architecture
abbrev pub missing_at : Option ℕ → Name → Option Fault
missing_at None n = fault_at k.NoArchitecture n
missing_at (Some place) n = None

-- the fault if an entity has no architecture, or not the named one
abbrev pub architecture_fault : Library → Name → Option Name → Option Fault
architecture_fault l e a = missing_at (place_of l e a) (missed_at e a)

-- the fault of an instance of an entity, which has these ports if it exists
abbrev pub known_fault : Library → Option (List Port) → Name → Option Name → Option Fault
known_fault l None e a = fault_at k.Unknown e
known_fault l (Some ports) e a = architecture_fault l e a

-- the fault of an instance of an entity in a library: only `work` exists
abbrev pub entity_fault : Library → Name → Name → Option Name → Option Fault
entity_fault l library e a =
    if bytes_eq library.text (codes "work") then known_fault l (interface_of l e.text) e a else fault_at k.Unknown library

-- the fault of an instance of the component with this name, whose entity has these ports if it exists
abbrev pub bound_fault : Library → Name → Component → Option (List Port) → Option Fault
bound_fault l c component None = fault_at k.Unknown c
bound_fault l c component (Some ports) = if component.is_like_entity then architecture_fault l c None else fault_at k.ComponentDiffers c

-- the fault of an instance of the component with this name
abbrev pub binding_fault : Library → Name → Component → Option Fault
binding_fault l c component = bound_fault l c component (interface_of l c.text)

-- the same for an optional component
abbrev pub declared_fault : Library → Name → Option Component → Option Fault
declared_fault l c None = fault_at k.WrongKind c
declared_fault l c (Some component) = binding_fault l c component

-- the fault of an instance of a name with this meaning, which must be a component
unfoldable pub component_fault : Library → List Component → Name → Option Meaning → Option Fault
component_fault l components c None = fault_at k.Unknown c
component_fault l components c (Some (m.Component place)) = declared_fault l c (slice_get components place)
component_fault l components c (Some (m.Port object mode type)) = fault_at k.WrongKind c
component_fault l components c (Some (m.Signal object type)) = fault_at k.WrongKind c
component_fault l components c (Some (m.Variable place type)) = fault_at k.WrongKind c
component_fault l components c (Some m.Label) = fault_at k.WrongKind c
component_fault l components c (Some (m.LogicMark resolved)) = fault_at k.WrongKind c
component_fault l components c (Some m.BooleanMark) = fault_at k.WrongKind c
component_fault l components c (Some (m.Truth v)) = fault_at k.WrongKind c
component_fault l components c (Some (m.Edge rising)) = fault_at k.WrongKind c

-- the fault in the names of an instance, in an architecture with these components
unfoldable pub unit_fault : Library → Lookup → List Component → Instantiated → Option Fault
unit_fault l look components (of.Component word c) = component_fault l components c (look c.text)
unit_fault l look components (of.Entity library e a) = entity_fault l library e a

-- ---- the faults of an instance

-- the faults of a port map for the ports of an entity, if it exists
abbrev pub map_faults_of : Lookup → Option (List Port) → Instance → List Fault
map_faults_of look None i = []
map_faults_of look (Some ports) i = port_map_faults look (record { ports = ports; associations = i.associations }) i.label.at

-- the faults of the port map of an instance
abbrev pub map_faults : Library → Lookup → Instance → List Fault
map_faults l look i = map_faults_of look (interface_of l (entity_name i.unit).text) i

-- the first fault alone, or else the others
abbrev pub alone : Option Fault → List Fault → List Fault
alone None faults = faults
alone (Some fault) faults = fault ∷ []

-- the faults of an instance; with a fault in its names, its port map is not checked
unfoldable pub instance_faults : Library → Lookup → List Component → Instance → List Fault
instance_faults l look components i = alone (unit_fault l look components i.unit) (map_faults l look i)
