-- The faults of declarations: of their names, type marks and initial values.
use Rattle.std.specs.Prelude.{ℕ, List, [], ◌∷◌, ◌++◌, Bool, true, false, Option, Some, None, is_some, is_none}
use Rattle.sim_text_tree.specs.Name.{Name}
use Rattle.sim_text_tree.specs.declared.declaration.Initial.{Initial}
use Rattle.sim_text_tree.specs.declared.declaration.Initial.TheVariants as initial
use Rattle.sim_text_tree.specs.declared.declaration.PortDeclaration.{PortDeclaration}
use Rattle.sim_text_tree.specs.declared.declaration.ObjectDeclaration.{ObjectDeclaration}
use Rattle.sim_text_tree.specs.declared.declaration.Declaration.{Declaration}
use Rattle.sim_text_tree.specs.declared.declaration.Declaration.TheVariants as declaration
use Rattle.sim_text_tree.specs.declared.unit.Concurrent.{Concurrent}
use Rattle.sim_text_tree.specs.declared.unit.Process.{Process}
use Rattle.sim_flat_scope.specs.declared.scope.Meaning.{Meaning}
use Rattle.sim_flat_scope.specs.declared.scope.Meaning.TheVariants as m
use Rattle.sim_flat_scope.specs.declared.scope.Type as ty
use Rattle.sim_flat_scope.specs.declared.scope.Type.TheVariants as type
use Rattle.sim_flat_scope.specs.declared.fault.Kind.TheVariants as k
use Rattle.sim_flat_scope.specs.declared.fault.Fault.{Fault}
use Rattle.sim_flat_scope.specs.Faults.{fault, where_}
use Rattle.sim_flat_scope.specs.Scopes.{Region, Lookup, found, with_first, means, is_predefined}
use Rattle.sim_flat_scope.specs.DeclaredNames.{port_names, body_names, process_names}
use Rattle.sim_flat_scope.specs.Regions.{port_labels, type_marked, ports_region}

-- ---- names

-- a name that is already declared
abbrev pub twice : Region → Name → List Fault
twice known n = where_ (is_some (found known n.text)) (fault k.Duplicate n.at)

-- a name that is predefined
abbrev pub predefined_name : Name → List Fault
predefined_name n = where_ (is_predefined n.text) (fault k.Predefined n.at)

-- a name declared after those of a region
abbrev pub name_faults : Region → Name → List Fault
name_faults known n = twice known n ++ predefined_name n

-- names declared after those of a region
unfoldable pub names_faults : Region → List Name → List Fault
names_faults known [] = []
names_faults known (n ∷ ns) = name_faults known n ++ names_faults (with_first known n.text m.Label) ns

-- ---- type marks and initial values

-- a mark that is not declared, or that denotes no type that the object may have
abbrev pub mark_faults : Bool → ℕ → Option Meaning → List Fault
mark_faults may_be_boolean at None = fault k.Unknown at
mark_faults may_be_boolean at (Some meaning) = where_ (is_none (type_marked may_be_boolean (Some meaning))) (fault k.WrongKind at)

-- a literal for a boolean object
abbrev pub literal_faults : Option ty.Type → ℕ → List Fault
literal_faults (Some type.Boolean) at = fault k.TypeClash at
literal_faults _ at = []

-- `true` or `false` for an object that is not boolean
abbrev pub truth_faults : Option ty.Type → ℕ → List Fault
truth_faults (Some type.Logic) at = fault k.TypeClash at
truth_faults _ at = []

-- a name as an initial value
abbrev pub value_faults : Option ty.Type → ℕ → Option Meaning → List Fault
value_faults type at None = fault k.Unknown at
value_faults type at (Some (m.Truth value)) = truth_faults type at
value_faults type at (Some _) = fault k.WrongKind at

-- an initial value, if there is one
abbrev pub initial_faults : Lookup → Option ty.Type → Option Initial → List Fault
initial_faults look type None = []
initial_faults look type (Some (initial.Literal value at)) = literal_faults type at
initial_faults look type (Some (initial.Named n)) = value_faults type n.at (look n.text)

-- the mark and the initial value of objects
unfoldable pub object_faults : Lookup → Bool → Name → Option Initial → List Fault
object_faults look may_be_boolean mark first =
    mark_faults may_be_boolean mark.at (look mark.text) ++ initial_faults look (type_marked may_be_boolean (look mark.text)) first

-- ---- declarations, in an inner region within an outer one

-- the marks and initial values of ports
unfoldable pub port_types : Lookup → List PortDeclaration → List Fault
port_types look [] = []
port_types look (p ∷ ps) = object_faults look false p.mark p.initial ++ port_types look ps

-- the ports of an entity, whose region is the outermost, or of a component, in the region of its architecture
unfoldable pub ports_faults : Region → Region → List PortDeclaration → List Fault
ports_faults inner outer ps = names_faults [] (port_names ps) ++ port_types (means inner outer) ps

-- the marks and initial values of variables
unfoldable pub variable_types : Lookup → List ObjectDeclaration → List Fault
variable_types look [] = []
variable_types look (o ∷ os) = object_faults look true o.mark o.initial ++ variable_types look os

-- the variables and labels of a process, in its own region within that of its architecture
unfoldable pub process_faults : Region → Region → Process → List Fault
process_faults inner outer p = names_faults [] (process_names p) ++ variable_types (means inner outer) p.variables

-- the mark and initial value of signals, or the ports of a component
abbrev pub declaration_faults : Region → Declaration → List Fault
declaration_faults region (declaration.Signal o) = object_faults (means region []) false o.mark o.initial
declaration_faults region (declaration.Component c) = ports_faults (ports_region region c.ports) region c.ports

-- those of each declaration of an architecture
unfoldable pub declarations_faults : Region → List Declaration → List Fault
declarations_faults region [] = []
declarations_faults region (d ∷ ds) = declaration_faults region d ++ declarations_faults region ds

-- The names of an architecture, which the ports of its entity may have taken, and its declarations in its region. Two ports with
-- the same name are a fault of the entity.
unfoldable pub architecture_faults : Region → List PortDeclaration → List Declaration → List Concurrent → List Fault
architecture_faults region ps ds cs =
    names_faults (port_labels ps) (body_names ds cs) ++ declarations_faults region ds
