use Rattle.std.proofs.Common.{ℕ, Option, refl, ap, ◌∙◌}
use Rattle.std.specs.Option.{option_or}
use Rattle.sim_flat_instances.specs.Places.{where_at, place_of_number}
use Rattle.sim_flat_instances.specs.PortMaps.{is_port}
use Rattle.sim_flat_instances.proofs.MapLoops.{association_step, associations_done}
use Rattle.sim_flat_instances.proofs.port_map.first_associations.Goals as goal

pub loop-at-init : goal.loop-at-init
unfolding place_of_number
loop-at-init c = λ p. rw c.new-firsts.ensures refl

pub loop-at-preserved : goal.loop-at-preserved
loop-at-preserved c = λ p.
    association_step c.args.ports.now p c.args.associations.now c.loop-at.at (place_of_number c.loop-at.firsts p) _ c.index-associations-at.result
    c.loop-at-test.true c.index-associations-at.is _
    (c.in_ok-note_first.ensures p
    ∙ ap (λ (o : Option ℕ). option_or (place_of_number c.loop-at.firsts p) (where_at (is_port o p) c.loop-at.at)) c.port_of.ensures.port)
    (c.loop-at.invariant p)

pub returns : goal.returns
returns c = λ p. associations_done c.args.ports.now p c.args.associations.now c.loop-at.at _ _ c.loop-at-test.false (c.loop-at.invariant p)
