use Rattle.std.proofs.Common.{◌∙◌, ℕ, List, refl, ap}
use Rattle.std.specs.Option.{option_or}
use Rattle.std.specs.Str.{bytes_eq}
use Rattle.sim_text_tree.specs.Name.{Name}
use Rattle.sim_flat_instances.specs.Interfaces.{is_named, port_place}
use Rattle.sim_flat_instances.specs.Places.{place_of, where_at}
use Rattle.sim_flat_instances.proofs.PlaceLoops.{first_step, first_done}
use Rattle.sim_flat_instances.proofs.interface.places_of.Goals as goal

pub loop-place-init : goal.loop-place-init
unfolding place_of port_place
loop-place-init c = λ n. rw c.new-places.ensures refl

pub loop-place-preserved : goal.loop-place-preserved
loop-place-preserved c = λ n.
    first_step (is_named n) c.args.ports.now c.loop-place.place c.index-ports-place.result c.loop-place-test.true c.index-ports-place.is
    (place_of c.loop-place.places n) _ _ (c.loop-place.invariant n)
    (c.in_ok-put_first.ensures n ∙ ap (λ (t : List ℕ). option_or (place_of c.loop-place.places n) (where_at (bytes_eq n t) c.loop-place.place))
    (c.text.ensures.text ∙ ap (λ (m : Name). m.text) c.name.ensures))

pub returns : goal.returns
returns c = λ n. first_done (is_named n) c.args.ports.now c.loop-place.place c.loop-place-test.false (place_of c.loop-place.places n) _
    (c.loop-place.invariant n)
