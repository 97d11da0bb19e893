use Rattle.std.proofs.Common.{ℕ, List, Bor, ◌∙◌, ap}
use Rattle.std.specs.Option.{option_or}
use Rattle.std.specs.Str.{bytes_eq}
use Rattle.sim_text_tree.specs.declared.unit.Architecture.{Architecture}
use Rattle.sim_flat_instances.specs.Libraries.{is_of, last_architecture}
use Rattle.sim_flat_instances.specs.Places.{place_of, where_at, last_place}
use Rattle.sim_flat_instances.proofs.PlaceLoops.{or_none, last_step, last_done}
use Rattle.sim_flat_instances.proofs.ReferencePlaces.{last_architecture_at}
use Rattle.sim_flat_instances.proofs.library.last_architectures.Goals as goal

pub loop-place-init : goal.loop-place-init
unfolding place_of last_architecture
loop-place-init c = λ e. rw c.new-places.ensures
    (or_none (last_place (λ (a : Bor Architecture). is_of e a.now) 0 c.args.architectures.now) ∙ last_architecture_at (is_of e) 0 c.args.architectures.now)

pub loop-place-preserved : goal.loop-place-preserved
loop-place-preserved c = λ e.
    last_step (λ (a : Bor Architecture). is_of e a.now) c.args.architectures.now c.loop-place.place c.index-architectures-place.result
    c.loop-place-test.true c.index-architectures-place.is (place_of c.loop-place.places e) _ _ (c.loop-place.invariant e)
    (c.in_ok-put.ensures e ∙ ap (λ (t : List ℕ). option_or (where_at (bytes_eq e t) c.loop-place.place) (place_of c.loop-place.places e)) c.text.ensures.text)

pub returns : goal.returns
returns c = λ e. last_done (λ (a : Bor Architecture). is_of e a.now) c.args.architectures.now c.loop-place.place c.loop-place-test.false
    (place_of c.loop-place.places e) _ (c.loop-place.invariant e)
