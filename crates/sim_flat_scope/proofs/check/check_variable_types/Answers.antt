use Rattle.std.proofs.Common.{true}
use Rattle.sim_text_tree.specs.declared.declaration.ObjectDeclaration.{ObjectDeclaration}
use Rattle.sim_flat_scope.specs.Scopes.{Lookup, means}
use Rattle.sim_flat_scope.specs.DeclarationFaults.{object_faults, variable_types}
use Rattle.sim_flat_scope.proofs.FaultLoops.{faults_step, variable_types_cons}
use Rattle.sim_flat_scope.proofs.check.check_variable_types.Goals as goal

pub loop-variable-preserved : goal.loop-variable-preserved
loop-variable-preserved c =
    let look : Lookup = means c.args.inner.now c.args.outer.now in
    faults_step (λ (o : ObjectDeclaration). object_faults look true o.mark o.initial) (variable_types look) (variable_types_cons look)
    c.loop-variable.first _ _ c.args.variables.now c.loop-variable.variable-index c.variable-item.result c.loop-variable-test.true c.variable-item.is
    c.loop-variable.invariant c.check_object.ensures
