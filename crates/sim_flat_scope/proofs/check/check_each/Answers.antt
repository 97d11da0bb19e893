use Rattle.sim_flat_scope.proofs.FaultLoops.{names_step}
use Rattle.sim_flat_scope.proofs.check.check_each.Goals as goal

pub loop-name-preserved : goal.loop-name-preserved
loop-name-preserved c =
    names_step c.loop-name.known _ c.loop-name.first _ _ c.args.names.now c.loop-name.name-index c.name-item.result c.loop-name-test.true c.name-item.is
    c.loop-name.invariant c.in_ok-check_name.ensures.faults c.in_ok-check_name.ensures.known
