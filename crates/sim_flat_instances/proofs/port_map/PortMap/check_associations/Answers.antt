use Rattle.std.proofs.Common.{refl}
use Rattle.sim_flat_scope.specs.Scopes.{Lookup, means}
use Rattle.sim_flat_instances.specs.PortMaps.{association_faults, associations_faults}
use Rattle.sim_flat_instances.proofs.MapLoops.{one_more, no_more}
use Rattle.sim_flat_instances.proofs.port_map.PortMap.check_associations.Goals as goal

pub loop-at-preserved : goal.loop-at-preserved
unfolding associations_faults
loop-at-preserved c =
    let look : Lookup = means c.args.inner.now c.args.outer.now in
    one_more (associations_faults look c.args.self.now) (association_faults look c.args.self.now) c.self.inside.associations.now c.loop-at.at
    c.loop-at.first _ (λ at x rest. refl) c.association-item.result c.loop-at-test.true c.association-item.is c.check_association.new.first
    c.check_association.ensures c.loop-at.invariant

pub returns : goal.returns
unfolding associations_faults
returns c =
    let look : Lookup = means c.args.inner.now c.args.outer.now in
    no_more (associations_faults look c.args.self.now) (association_faults look c.args.self.now) c.self.inside.associations.now c.loop-at.at
    c.loop-at.first _ refl c.loop-at-test.false c.loop-at.invariant
