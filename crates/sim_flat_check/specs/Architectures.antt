-- The faults of the architectures of a file (IEEE 1076-2008, 3.3).
use Rattle.std.specs.Prelude.{ℕ, Bool, List, [], ◌∷◌, ◌++◌, Option, Some, None}
use Rattle.sim_text_tree.specs.declared.declaration.PortDeclaration.{PortDeclaration}
use Rattle.sim_text_tree.specs.declared.unit.Architecture.{Architecture}
use Rattle.sim_flat_scope.specs.declared.fault.Kind.TheVariants as k
use Rattle.sim_flat_scope.specs.declared.fault.Fault.{Fault}
use Rattle.sim_flat_scope.specs.Faults.{fault, where_}
use Rattle.sim_flat_scope.specs.Regions.{architecture_region}
use Rattle.sim_flat_scope.specs.DeclarationFaults as declarations
use Rattle.sim_flat_instances.specs.Components.{components}
use Rattle.sim_flat_instances.specs.Libraries.{Library, entity_of, first_entity, ports_in}
use Rattle.sim_flat_check.specs.BodyNames.{BodyNames, is_known, with_name}
use Rattle.sim_flat_check.specs.Concurrents.{statements_faults}

-- ---- their names (3.3.1, 13.2)

-- the fault if an architecture's entity is not in the file, or already has an architecture with this name
abbrev pub unit_faults : Option ℕ → Bool → Architecture → List Fault
unit_faults None again a = fault k.Unknown a.entity.at
unit_faults (Some place) again a = where_ again (fault k.Duplicate a.name.at)

-- The faults of the names of an architecture, given those known before it. A predefined name is a fault even without an entity.
unfoldable pub name_faults : Library → BodyNames → Architecture → List Fault
name_faults l known a =
    declarations.predefined_name a.name
    ++ unit_faults (first_entity l.entities a.entity.text) (is_known known a.entity.text a.name.text) a

-- the faults of the names of each architecture, in the order of the file
unfoldable pub names_faults : Library → BodyNames → List Architecture → List Fault
names_faults l known [] = []
names_faults l known (a ∷ more) = name_faults l known a ++ names_faults l (with_name known a.entity.text a.name.text) more

-- ---- their declarations and statements (3.3.2, 3.3.3)

-- the faults of the declarations and statements of an architecture of an entity with these ports
unfoldable pub body_faults : Library → List PortDeclaration → Architecture → List Fault
body_faults l ps a =
    let region = architecture_region ps a.declarations a.statements in
    declarations.architecture_faults region ps a.declarations a.statements
    ++ statements_faults l region (components l a.declarations) a.statements

-- the same if the entity exists; otherwise nothing is checked
abbrev pub body_of : Library → Option (List PortDeclaration) → Architecture → List Fault
body_of l None a = []
body_of l (Some ps) a = body_faults l ps a

-- the same for an architecture of the entity that it names
abbrev pub known_faults : Library → Architecture → List Fault
known_faults l a = body_of l (ports_in (entity_of l a.entity.text)) a

-- the same for each architecture
unfoldable pub bodies_faults : Library → List Architecture → List Fault
bodies_faults l [] = []
bodies_faults l (a ∷ more) = known_faults l a ++ bodies_faults l more

-- the faults of architectures
unfoldable pub architectures_faults : Library → List Architecture → List Fault
architectures_faults l all = names_faults l [] all ++ bodies_faults l all
