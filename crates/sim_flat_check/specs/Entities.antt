-- The faults of the entities of a file (IEEE 1076-2008, 3.2).
use Rattle.std.specs.Prelude.{List, [], ◌∷◌, ◌++◌}
use Rattle.sim_text_tree.specs.Name.{Name}
use Rattle.sim_text_tree.specs.declared.unit.Entity.{Entity}
use Rattle.sim_flat_scope.specs.declared.fault.Fault.{Fault}
use Rattle.sim_flat_scope.specs.Regions.{ports_region}
use Rattle.sim_flat_scope.specs.DeclarationFaults.{names_faults, ports_faults}

-- the names of entities
unfoldable pub entity_names : List Entity → List Name
entity_names [] = []
entity_names (e ∷ es) = e.name ∷ entity_names es

-- the faults of the names of entities, which are declared in one library (13.2)
abbrev pub entity_names_faults : List Entity → List Fault
entity_names_faults es = names_faults [] (entity_names es)

-- the faults of the ports of an entity, where its ports and then the predefined names are visible (12.1)
abbrev pub entity_faults : Entity → List Fault
entity_faults e = ports_faults (ports_region [] e.ports) [] e.ports

-- the faults of the ports of each entity
unfoldable pub each_entity : List Entity → List Fault
each_entity [] = []
each_entity (e ∷ es) = entity_faults e ++ each_entity es

-- the faults of entities
unfoldable pub entities_faults : List Entity → List Fault
entities_faults es = entity_names_faults es ++ each_entity es
