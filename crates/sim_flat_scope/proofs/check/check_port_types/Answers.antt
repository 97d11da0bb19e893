use Rattle.std.proofs.Common.{false}
use Rattle.sim_text_tree.specs.declared.declaration.PortDeclaration.{PortDeclaration}
use Rattle.sim_flat_scope.specs.Scopes.{Lookup, means}
use Rattle.sim_flat_scope.specs.DeclarationFaults.{object_faults, port_types}
use Rattle.sim_flat_scope.proofs.FaultLoops.{faults_step, port_types_cons}
use Rattle.sim_flat_scope.proofs.check.check_port_types.Goals as goal

pub loop-port-preserved : goal.loop-port-preserved
loop-port-preserved c =
    let look : Lookup = means c.args.inner.now c.args.outer.now in
    faults_step (λ (p : PortDeclaration). object_faults look false p.mark p.initial) (port_types look) (port_types_cons look) c.loop-port.first _ _
    c.args.ports.now c.loop-port.port-index c.port-item.result c.loop-port-test.true c.port-item.is c.loop-port.invariant c.check_object.ensures
