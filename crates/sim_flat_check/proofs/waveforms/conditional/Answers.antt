use Rattle.std.proofs.Common.{◌≡◌, refl, rules, arith}
use Rattle.std.proofs.lemmas.Grind.{common_steps}
use Rattle.sim_flat_scope.specs.Faults.{earliest}
use Rattle.sim_flat_scope.specs.Scopes.{means}
use Rattle.sim_flat_scope.proofs.Faults.{of_both}
use Rattle.sim_flat_check.specs.Waveforms.{alternative_faults, conditional_faults}
use Rattle.sim_flat_check.proofs.Turns.{one_more}
use Rattle.sim_flat_check.proofs.waveforms.conditional.Goals as goal

pub loop-each-preserved : goal.loop-each-preserved
unfolding alternative_faults conditional_faults
loop-each-preserved c =
    let look = means c.args.inner.now c.args.outer.now in
    let each = alternative_faults look c.args.mechanism.now c.args.target in
    let step : c.condition.new.first ≡ earliest c.loop-each.first (each c.each-item.result) = search (rules, of_both) in
    one_more (conditional_faults look c.args.mechanism.now c.args.target) each (λ x xs. refl)
    c.args.alternatives.now c.loop-each.each-index c.each-item.result c.loop-each-test.true c.each-item.is
    c.loop-each.first c.condition.new.first _ step c.loop-each.invariant

pub returns : goal.returns
unfolding conditional_faults earliest
returns c = grind (arith, common_steps)
