-- The components of an architecture: whether each has the ports of its entity (IEEE 1076-2008, 6.8, 7.3.3).
use Rattle.std.specs.Prelude.{List, [], ◌∷◌, ◌++◌, Bool, false, Option, Some, None}
use Rattle.sim_text_tree.specs.declared.declaration.Declaration.{Declaration}
use Rattle.sim_text_tree.specs.declared.declaration.Declaration.TheVariants as declaration
use Rattle.sim_flat_scope.specs.Ports.{Port, ports_of}
use Rattle.sim_flat_instances.specs.declared.component.Component.{Component}
use Rattle.sim_flat_instances.specs.Interfaces.{are_alike}
use Rattle.sim_flat_instances.specs.Libraries.{Library, interface_of}

-- whether the entity exists and has the same ports
abbrev pub are_like_those : List Port → Option (List Port) → Bool
are_like_those ports None = false
are_like_those ports (Some entity) = are_alike ports entity

-- the component of a declaration, compared with the entity of the same name
unfoldable pub components_in : Library → Declaration → List Component
components_in l (declaration.Signal o) = []
components_in l (declaration.Component c) = record { is_like_entity = are_like_those (ports_of c.ports) (interface_of l c.name.text) } ∷ []

-- the components of an architecture, by position
unfoldable pub components : Library → List Declaration → List Component
components l [] = []
components l (d ∷ ds) = components_in l d ++ components l ds
