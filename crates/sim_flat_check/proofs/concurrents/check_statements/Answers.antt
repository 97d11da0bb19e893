use Rattle.std.proofs.Common.{refl, arith}
use Rattle.std.proofs.lemmas.Grind.{common_steps}
use Rattle.sim_flat_scope.specs.Faults.{earliest}
use Rattle.sim_flat_check.specs.Concurrents.{statement_faults, statements_faults}
use Rattle.sim_flat_check.proofs.UnitTurns.{one_more}
use Rattle.sim_flat_check.proofs.concurrents.check_statements.Goals as goal

pub loop-statement-preserved : goal.loop-statement-preserved
unfolding statements_faults
loop-statement-preserved c =
    one_more (statements_faults c.args.library.now c.args.region.now c.args.components.now)
    (statement_faults c.args.library.now c.args.region.now c.args.components.now) (λ x xs. refl)
    c.args.statements.now c.loop-statement.statement-index c.statement-item.result c.loop-statement-test.true c.statement-item.is
    c.loop-statement.first c.check_statement.new.first _ c.in_ok-check_statement.ensures c.loop-statement.invariant

pub returns : goal.returns
unfolding statements_faults earliest
returns c = grind (arith, common_steps)
