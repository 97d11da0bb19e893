-- The declarative regions of a design (IEEE 1076-2008, 12.1), made from its declarations.
use Rattle.std.specs.Prelude.{ℕ, ◌+◌, List, [], ◌∷◌, ◌++◌, length, Bool, true, false, Option, Some, None}
use Rattle.sim_text_tree.specs.Name.{Name}
use Rattle.sim_text_tree.specs.declared.declaration.Mode.{Mode}
use Rattle.sim_text_tree.specs.declared.declaration.Mode.TheVariants as mode
use Rattle.sim_text_tree.specs.declared.declaration.PortDeclaration.{PortDeclaration}
use Rattle.sim_text_tree.specs.declared.declaration.ObjectDeclaration.{ObjectDeclaration}
use Rattle.sim_text_tree.specs.declared.declaration.Declaration.{Declaration}
use Rattle.sim_text_tree.specs.declared.declaration.Declaration.TheVariants as declaration
use Rattle.sim_text_tree.specs.declared.unit.Concurrent.{Concurrent}
use Rattle.sim_text_tree.specs.declared.unit.Process.{Process}
use Rattle.sim_flat_scope.specs.declared.scope.Meaning.{Meaning}
use Rattle.sim_flat_scope.specs.declared.scope.Meaning.TheVariants as m
use Rattle.sim_flat_scope.specs.declared.scope.Type as ty
use Rattle.sim_flat_scope.specs.declared.scope.Type.TheVariants as type
use Rattle.sim_flat_scope.specs.Scopes.{Declared, Region, Lookup, declaring, means}
use Rattle.sim_flat_scope.specs.declared.region.Object.{Object}
use Rattle.sim_flat_scope.specs.declared.region.Object.TheVariants as object
use Rattle.sim_flat_scope.specs.DeclaredNames.{port_names, concurrent_labels, body_names, statement_labels, process_names}

-- ---- labels

-- names as labels
unfoldable pub labels : List Name → List Declared
labels [] = []
labels (n ∷ ns) = (n.text, m.Label) ∷ labels ns

-- a region extended by these names, as labels only
abbrev pub naming : Region → List Name → Region
naming region ns = declaring region (labels ns)

-- ---- objects

-- The type that a mark denotes: boolean only if the object may be boolean. No text declares a type.
abbrev pub type_marked : Bool → Option Meaning → Option ty.Type
type_marked may_be_boolean (Some (m.LogicMark resolved)) = Some type.Logic
type_marked true (Some m.BooleanMark) = Some type.Boolean
type_marked _ _ = None

-- the type that the mark of objects denotes
abbrev pub mark_type : Lookup → Bool → Name → Option ty.Type
mark_type look may_be_boolean mark = type_marked may_be_boolean (look mark.text)

-- a mode that is not written is `in` (6.5.2)
abbrev pub mode_of : Option Mode → Mode
mode_of None = mode.In
mode_of (Some written) = written

-- the meaning of an object's name, at this position
abbrev pub meaning_of : Object → ℕ → Meaning
meaning_of (object.Port mode type) place = m.Port place mode type
meaning_of (object.Signal type) place = m.Signal place type
meaning_of (object.Variable type) place = m.Variable place type

-- objects at consecutive positions from this one
unfoldable pub objects : Object → ℕ → List Name → List Declared
objects object place [] = []
objects object place (n ∷ ns) = (n.text, meaning_of object place) ∷ objects object (place + 1) ns

-- the ports of a declaration, from this position
abbrev pub port_objects : Lookup → ℕ → PortDeclaration → List Declared
port_objects look place p = objects (object.Port (mode_of p.mode) (mark_type look false p.mark)) place p.names

-- ports, from this position
unfoldable pub ports : Lookup → ℕ → List PortDeclaration → List Declared
ports look place [] = []
ports look place (p ∷ ps) = port_objects look place p ++ ports look (place + length p.names) ps

-- the variables of a declaration, from this position
abbrev pub variable_objects : Lookup → ℕ → ObjectDeclaration → List Declared
variable_objects look place o = objects (object.Variable (mark_type look true o.mark)) place o.names

-- variables, from this position
unfoldable pub variables : Lookup → ℕ → List ObjectDeclaration → List Declared
variables look place [] = []
variables look place (o ∷ os) = variable_objects look place o ++ variables look (place + length o.names) os

-- the signals of a declaration, or its component, each from its own position
abbrev pub declared : Lookup → ℕ → ℕ → Declaration → List Declared
declared look signal component (declaration.Signal o) = objects (object.Signal (mark_type look false o.mark)) signal o.names
declared look signal component (declaration.Component c) = (c.name.text, m.Component component) ∷ []

-- the number of signals that a declaration declares
abbrev pub signal_count : Declaration → ℕ
signal_count (declaration.Signal o) = length o.names
signal_count (declaration.Component c) = 0

-- the number of components that a declaration declares
abbrev pub component_count : Declaration → ℕ
component_count (declaration.Signal o) = 0
component_count (declaration.Component c) = 1

-- signals and components, each from its own position
unfoldable pub declarations : Lookup → ℕ → ℕ → List Declaration → List Declared
declarations look signal component [] = []
declarations look signal component (d ∷ ds) =
    declared look signal component d ++ declarations look (signal + signal_count d) (component + component_count d) ds

-- ---- regions

-- the names of an entity's or a component's ports, as labels only
abbrev pub port_labels : List PortDeclaration → Region
port_labels ps = naming [] (port_names ps)

-- the number of ports
abbrev pub port_count : List PortDeclaration → ℕ
port_count ps = length (port_names ps)

-- The region of the ports of an entity, which no other encloses, or of a component, which that of its architecture encloses.
-- A mark is looked up in the whole region, where the ports are known only as labels.
unfoldable pub ports_region : Region → List PortDeclaration → Region
ports_region outer ps = declaring [] (ports (means (port_labels ps) outer) 0 ps)

-- the names visible in an architecture, as labels only: the ports of its entity, then its own
abbrev pub architecture_labels : List PortDeclaration → List Declaration → List Concurrent → Region
architecture_labels ps ds cs = naming (port_labels ps) (body_names ds cs)

-- the region of an architecture, which extends that of its entity's ports
unfoldable pub architecture_region : List PortDeclaration → List Declaration → List Concurrent → Region
architecture_region ps ds cs =
    naming
    (declaring (ports_region [] ps) (declarations (means (architecture_labels ps ds cs) []) (port_count ps) 0 ds))
    (concurrent_labels cs)

-- the region of a process, which that of its architecture encloses
unfoldable pub process_region : Region → Process → Region
process_region outer p =
    naming (declaring [] (variables (means (naming [] (process_names p)) outer) 0 p.variables)) (statement_labels p.statements)
