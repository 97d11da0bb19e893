use Rattle.sim_flat_scope.specs.DeclarationFaults.{declaration_faults, declarations_faults}
use Rattle.sim_flat_scope.proofs.FaultLoops.{faults_step, declarations_faults_cons}
use Rattle.sim_flat_scope.proofs.check.check_declarations.Goals as goal

pub loop-declaration-preserved : goal.loop-declaration-preserved
loop-declaration-preserved c =
    faults_step (declaration_faults c.args.scope.now) (declarations_faults c.args.scope.now) (declarations_faults_cons c.args.scope.now)
    c.loop-declaration.first _ _ c.args.declarations.now c.loop-declaration.declaration-index c.declaration-item.result c.loop-declaration-test.true
    c.declaration-item.is c.loop-declaration.invariant c.in_ok-check_declaration.ensures
