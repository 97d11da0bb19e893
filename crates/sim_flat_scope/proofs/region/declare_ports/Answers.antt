use Rattle.std.proofs.Common.{arith}
use Rattle.std.proofs.lemmas.Grind.{common_steps}
use Rattle.std.proofs.Common.{◌∙◌, refl}
use Rattle.sim_flat_scope.specs.Scopes.{means}
use Rattle.sim_flat_scope.proofs.Declaring.{ports_step}
use Rattle.sim_flat_scope.proofs.region.declare_ports.Goals as goal
use Rattle.sim_flat_scope.proofs.Declaring.{in_pieces}
use Rattle.sim_flat_scope.specs.Regions.{ports}
use Rattle.sim_flat_scope.specs.Scopes.{declaring}

pub loop-port-preserved : goal.loop-port-preserved
loop-port-preserved c =
    ports_step (means c.args.inner.now c.args.outer.now) c.loop-port.part _ _ c.loop-port.place _ c.loop-port.port-index c.args.ports.now
    c.port-item.result c.loop-port-test.true c.port-item.is c.loop-port.invariant
    (c.in_ok-place.ensures.declared ∙ rw (c.mode_of.ensures, c.mark_type.ensures, c.as_slice.ensures.value) refl)
    (c.in_ok-place.ensures.place ∙ rw c.as_slice.ensures.value refl)

pub returns : goal.returns
unfolding ports declaring
returns c = grind (arith, common_steps, in_pieces)
