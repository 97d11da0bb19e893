use Rattle.std.proofs.Common.{ℕ, List, Bor, ◌∙◌, ap}
use Rattle.std.specs.Option.{option_or}
use Rattle.std.specs.Str.{bytes_eq}
use Rattle.sim_text_tree.specs.declared.unit.Entity.{Entity}
use Rattle.sim_flat_instances.specs.Libraries.{is_named, first_entity}
use Rattle.sim_flat_instances.specs.Places.{place_of, where_at}
use Rattle.sim_flat_instances.proofs.PlaceLoops.{first_step, first_done}
use Rattle.sim_flat_instances.proofs.ReferencePlaces.{first_entity_at}
use Rattle.sim_flat_instances.proofs.library.first_entities.Goals as goal

pub loop-place-init : goal.loop-place-init
unfolding place_of first_entity
loop-place-init c = λ n. rw c.new-places.ensures (first_entity_at (is_named n) 0 c.args.entities.now)

pub loop-place-preserved : goal.loop-place-preserved
loop-place-preserved c = λ n.
    first_step (λ (e : Bor Entity). is_named n e.now) c.args.entities.now c.loop-place.place c.index-entities-place.result c.loop-place-test.true
    c.index-entities-place.is (place_of c.loop-place.places n) _ _ (c.loop-place.invariant n)
    (c.in_ok-put_first.ensures n
    ∙ ap (λ (t : List ℕ). option_or (place_of c.loop-place.places n) (where_at (bytes_eq n t) c.loop-place.place)) c.text.ensures.text)

pub returns : goal.returns
returns c = λ n. first_done (λ (e : Bor Entity). is_named n e.now) c.args.entities.now c.loop-place.place c.loop-place-test.false
    (place_of c.loop-place.places n) _ (c.loop-place.invariant n)
