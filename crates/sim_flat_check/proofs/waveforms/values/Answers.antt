use Rattle.std.proofs.Common.{refl, arith}
use Rattle.std.proofs.lemmas.Grind.{common_steps}
use Rattle.sim_flat_scope.specs.Faults.{earliest}
use Rattle.sim_flat_scope.proofs.Faults.{of_both}
use Rattle.sim_text_tree.specs.declared.waveform.Element.{Element}
use Rattle.sim_flat_scope.specs.Scopes.{means}
use Rattle.sim_flat_check.specs.Waveforms.{value_faults, values_faults}
use Rattle.sim_flat_check.proofs.Turns.{one_more}
use Rattle.sim_flat_check.proofs.waveforms.values.Goals as goal

pub loop-element-preserved : goal.loop-element-preserved
unfolding values_faults
loop-element-preserved c =
    let look = means c.args.inner.now c.args.outer.now in
    one_more (values_faults look c.args.target) (λ (x : Element). value_faults look c.args.target x.value) (λ x xs. refl) c.args.waveform.now
    c.loop-element.element-index c.element-item.result c.loop-element-test.true c.element-item.is
    c.loop-element.first c.value.new.first _ c.value.ensures c.loop-element.invariant

pub returns : goal.returns
unfolding values_faults earliest
returns c = grind (arith, common_steps, of_both)

pub loop-element-init : goal.loop-element-init
unfolding values_faults earliest
loop-element-init c = grind (arith, common_steps, of_both)

pub value-requires : goal.value-requires
unfolding values_faults earliest
value-requires c = grind (arith, common_steps, of_both)
