-- The entities and architectures of a file, by name (IEEE 1076-2008, 3.2, 3.3 and 13.1).
use Rattle.std.specs.Prelude.{ℕ, ◌&&◌, List, [], ◌∷◌, ◌++◌, Bool, Option, Some, None, slice_get}
use Rattle.std.specs.Borrow.{Bor}
use Rattle.std.specs.Str.{bytes_eq}
use Rattle.sim_text_tree.specs.declared.declaration.PortDeclaration.{PortDeclaration}
use Rattle.sim_text_tree.specs.declared.unit.Entity.{Entity}
use Rattle.sim_text_tree.specs.declared.unit.Architecture.{Architecture}
use Rattle.sim_text_tree.specs.declared.unit.LibraryUnit.{LibraryUnit}
use Rattle.sim_text_tree.specs.declared.unit.LibraryUnit.TheVariants as unit
use Rattle.sim_text_tree.specs.declared.unit.DesignUnit.{DesignUnit}
use Rattle.sim_flat_scope.specs.Ports.{Port, ports_of}
use Rattle.sim_flat_instances.specs.Places.{first_place, last_place}

-- the entities and the architectures of a file, each in the order of the file
pub record Library : Type 0 where
  pub entities : List Entity
  pub architectures : List Architecture

-- a unit, if it is an entity
abbrev pub entity_in : LibraryUnit → List Entity
entity_in (unit.Entity e) = e ∷ []
entity_in (unit.Architecture a) = []

-- the entities among units
unfoldable pub entities_in : List DesignUnit → List Entity
entities_in [] = []
entities_in (u ∷ us) = entity_in u.library_unit ++ entities_in us

-- a unit, if it is an architecture
abbrev pub architecture_in : LibraryUnit → List Architecture
architecture_in (unit.Entity e) = []
architecture_in (unit.Architecture a) = a ∷ []

-- the architectures among units
unfoldable pub architectures_in : List DesignUnit → List Architecture
architectures_in [] = []
architectures_in (u ∷ us) = architecture_in u.library_unit ++ architectures_in us

-- the library of a file with these units
abbrev pub library_of : List DesignUnit → Library
library_of us = record { entities = entities_in us; architectures = architectures_in us }

-- the entities behind references
unfoldable pub entities_at : List (Bor Entity) → List Entity
entities_at [] = []
entities_at (e ∷ es) = e.now ∷ entities_at es

-- the architectures behind references
unfoldable pub bodies_at : List (Bor Architecture) → List Architecture
bodies_at [] = []
bodies_at (a ∷ more) = a.now ∷ bodies_at more

-- whether an entity has this name
abbrev pub is_named : List ℕ → Entity → Bool
is_named n e = bytes_eq n e.name.text

-- whether an architecture belongs to the entity with this name
abbrev pub is_of : List ℕ → Architecture → Bool
is_of e a = bytes_eq e a.entity.text

-- whether an architecture belongs to the entity with this name and has this name
abbrev pub is_named_of : List ℕ → List ℕ → Architecture → Bool
is_named_of e n a = bytes_eq e a.entity.text && bytes_eq n a.name.text

-- the position of the entity with this name; the first counts
unfoldable pub first_entity : List Entity → List ℕ → Option ℕ
first_entity es n = first_place (is_named n) 0 es

-- the position of the architecture of an entity if none is named; the last counts (7.3.3)
unfoldable pub last_architecture : List Architecture → List ℕ → Option ℕ
last_architecture architectures e = last_place (is_of e) 0 architectures

-- the position of the architecture of an entity with this name; the last counts
unfoldable pub last_named : List Architecture → List ℕ → List ℕ → Option ℕ
last_named architectures e n = last_place (is_named_of e n) 0 architectures

-- the ports of each entity
unfoldable pub interfaces : List Entity → List (List Port)
interfaces [] = []
interfaces (e ∷ es) = ports_of e.ports ∷ interfaces es

-- the ports that each entity declares
unfoldable pub declared_ports : List Entity → List (List PortDeclaration)
declared_ports [] = []
declared_ports (e ∷ es) = e.ports ∷ declared_ports es

-- the ports that an entity declares, if it exists
abbrev pub ports_in : Option Entity → Option (List PortDeclaration)
ports_in None = None
ports_in (Some e) = Some e.ports

-- the item at a position
abbrev pub at_place : {X : Type 0} → List X → Option ℕ → Option X
at_place xs None = None
at_place xs (Some place) = slice_get xs place

-- the entity with this name
unfoldable pub entity_of : Library → List ℕ → Option Entity
entity_of l n = at_place l.entities (first_entity l.entities n)

-- the ports of the entity with this name
unfoldable pub interface_of : Library → List ℕ → Option (List Port)
interface_of l n = at_place (interfaces l.entities) (first_entity l.entities n)
