use Rattle.std.proofs.Common.{◌≡◌, ℕ, List, Bor, drop}
use Rattle.std.specs.Option.{option_or}
use Rattle.sim_text_tree.specs.declared.unit.Entity.{Entity}
use Rattle.sim_flat_instances.specs.Libraries.{is_named, first_entity, entities_at}
use Rattle.sim_flat_instances.specs.Places.{place_of, first_place}
use Rattle.sim_flat_instances.proofs.library.first_entities.Given as goal

abbrev pub invariant-loop-place : goal.invariant-loop-place
invariant-loop-place l = (n : List ℕ) →
    option_or (place_of l.places n) (first_place (λ (e : Bor Entity). is_named n e.now) l.place (drop l.place l.entities))
    ≡ first_entity (entities_at l.entities) n
