use Rattle.std.proofs.Common.{arith}
use Rattle.std.proofs.lemmas.Grind.{common_steps}
use Rattle.sim_flat_check.specs.Architectures.{names_faults}
use Rattle.sim_flat_instances.specs.Libraries.{bodies_at}
use Rattle.sim_flat_scope.specs.Faults.{earliest}
use Rattle.sim_flat_check.proofs.KnownNames.{names_step}
use Rattle.sim_flat_check.proofs.architectures.check_names.Goals as goal

pub loop-architecture-preserved : goal.loop-architecture-preserved
loop-architecture-preserved c =
    names_step c.args.library.now c.loop-architecture.known _ c.loop-architecture.first _ _ c.args.architectures.now
    c.loop-architecture.architecture-index c.architecture-item.result c.loop-architecture-test.true c.architecture-item.is
    c.loop-architecture.invariant c.in_ok-check_name.ensures.faults c.in_ok-check_name.ensures.known

pub returns : goal.returns
unfolding names_faults bodies_at earliest
returns c = grind (arith, common_steps)
