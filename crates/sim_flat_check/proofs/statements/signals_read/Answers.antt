use Rattle.std.proofs.Common.{refl, arith}
use Rattle.std.proofs.lemmas.Grind.{common_steps}
use Rattle.sim_flat_scope.specs.Faults.{earliest}
use Rattle.sim_text_tree.specs.Name.{Name}
use Rattle.sim_flat_scope.specs.Scopes.{means}
use Rattle.sim_flat_check.specs.Types as types
use Rattle.sim_flat_check.specs.Statements.{signals_read}
use Rattle.sim_flat_check.proofs.Turns.{one_more}
use Rattle.sim_flat_check.proofs.statements.signals_read.Goals as goal

pub loop-name-preserved : goal.loop-name-preserved
unfolding signals_read
loop-name-preserved c =
    let look = means c.args.inner.now c.args.outer.now in
    one_more (signals_read look) (λ (n : Name). types.signal_read n.at (look n.text)) (λ x xs. refl)
    c.args.names.now c.loop-name.name-index c.name-item.result c.loop-name-test.true c.name-item.is
    c.loop-name.first c.sensitive.new.first _ c.sensitive.ensures c.loop-name.invariant

pub returns : goal.returns
unfolding signals_read earliest
returns c = grind (arith, common_steps)
