use Rattle.std.proofs.Common.{ℕ, List, Bor, ◌&&◌, ◌∙◌, ap}
use Rattle.std.specs.Option.{option_or}
use Rattle.std.specs.Str.{bytes_eq}
use Rattle.sim_text_tree.specs.declared.unit.Architecture.{Architecture}
use Rattle.sim_flat_instances.specs.Libraries.{is_named_of, last_named}
use Rattle.sim_flat_instances.specs.Places.{place_of_both, where_at, last_place}
use Rattle.sim_flat_instances.proofs.PlaceLoops.{or_none, last_step, last_done}
use Rattle.sim_flat_instances.proofs.ReferencePlaces.{last_architecture_at}
use Rattle.sim_flat_instances.proofs.library.named_architectures.Goals as goal

pub loop-place-init : goal.loop-place-init
unfolding place_of_both last_named
loop-place-init c = λ e n. rw c.new-places.ensures
    (or_none (last_place (λ (a : Bor Architecture). is_named_of e n a.now) 0 c.args.architectures.now)
    ∙ last_architecture_at (is_named_of e n) 0 c.args.architectures.now)

pub loop-place-preserved : goal.loop-place-preserved
loop-place-preserved c = λ e n.
    let known = place_of_both c.loop-place.places e n in
    last_step (λ (a : Bor Architecture). is_named_of e n a.now) c.args.architectures.now c.loop-place.place c.index-architectures-place.result
    c.loop-place-test.true c.index-architectures-place.is known _ _ (c.loop-place.invariant e n)
    (c.in_ok-put.ensures e n
    ∙ (ap (λ (t : List ℕ). option_or (where_at (bytes_eq e t && bytes_eq n c.text-in-loop-place.result.now) c.loop-place.place) known) c.text.ensures.text
    ∙ ap (λ (t : List ℕ). option_or (where_at (bytes_eq e c.index-architectures-place.result.now.entity.text && bytes_eq n t) c.loop-place.place) known)
    c.text-in-loop-place.ensures.text))

pub returns : goal.returns
returns c = λ e n. last_done (λ (a : Bor Architecture). is_named_of e n a.now) c.args.architectures.now c.loop-place.place c.loop-place-test.false
    (place_of_both c.loop-place.places e n) _ (c.loop-place.invariant e n)
