use Rattle.std.proofs.Common.{List, ap, ◌∙◌}
use Rattle.sim_flat_scope.specs.Ports.{Port}
use Rattle.sim_flat_instances.specs.Interfaces.{port_place}
use Rattle.sim_flat_instances.proofs.PlaceLoops.{place_within}
use Rattle.sim_flat_instances.proofs.interface.Interface.place.Goals as goal

pub returns-clause-within : goal.returns-clause-within
returns-clause-within c = place_within c.find.result c.args.self.now c.args.name.now
    (c.find.ensures ∙ (c.self.invariant.0 c.args.name.now ∙ ap (λ (ports : List Port). port_place ports c.args.name.now) c.self.view_is))
