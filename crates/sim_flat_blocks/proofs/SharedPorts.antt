-- The blocks of one entity share its ports: those at the entity's position are the ports that it declares.
use Rattle.std.proofs.Common.{◌≡◌, ℕ, zero, suc, List, [], ◌∷◌, map, Option, Some, None, refl}
use Rattle.sim_text_tree.specs.declared.unit.Entity.{Entity}
use Rattle.sim_flat_scope.specs.Ports.{ports_of}
use Rattle.sim_flat_instances.specs.Libraries.{Library, at_place, declared_ports, entity_of, first_entity}
use Rattle.sim_flat_blocks.specs.declared.parts.Port.{Port}
use Rattle.sim_flat_blocks.specs.Plans.{block_ports, ports_declared, ports_named, shared_ports}

-- optional ports
abbrev listed : Option (List Port) → List Port
listed None = []
listed (Some ports) = ports

shared_is : (es : List Entity) (o : Option ℕ) → listed (at_place (map block_ports (declared_ports es)) o) ≡ block_ports (ports_declared (at_place es o))
unfolding declared_ports block_ports ports_of
shared_is es None = refl
shared_is [] (Some n) = refl
shared_is (e ∷ es) (Some zero) = refl
shared_is (e ∷ es) (Some (suc n)) = shared_is es (Some n)

-- the shared ports at the position of an entity
pub shared_by : (l : Library) (n : List ℕ) (place : Option ℕ) (shared : List (List Port)) (found : Option (List Port))
    → shared ≡ shared_ports l → place ≡ first_entity l.entities n → found ≡ at_place shared place
    → listed found ≡ block_ports (ports_named l n)
unfolding shared_ports ports_named entity_of
shared_by l n place shared found made at is = rw (is, made, at) (shared_is l.entities (first_entity l.entities n))
