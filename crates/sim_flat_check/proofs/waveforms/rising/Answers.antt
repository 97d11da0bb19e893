use Rattle.sim_flat_check.specs.Waveforms.{not_rising}
use Rattle.sim_flat_scope.specs.Faults.{earliest}
use Rattle.std.proofs.Common.{arith}
use Rattle.std.proofs.lemmas.Grind.{common_steps}
use Rattle.sim_flat_scope.proofs.Faults.{of_both}
use Rattle.sim_flat_check.proofs.waveforms.rising.Goals as goal

pub above-requires : goal.above-requires
unfolding not_rising earliest
above-requires c = grind (arith, common_steps, of_both)

pub loop-element-init : goal.loop-element-init
unfolding not_rising earliest
loop-element-init c = grind (arith, common_steps, of_both)

pub delay_after-requires : goal.delay_after-requires
unfolding not_rising earliest
delay_after-requires c = grind (arith, common_steps, of_both)

pub loop-element-preserved : goal.loop-element-preserved
unfolding not_rising earliest
loop-element-preserved c = grind (arith, common_steps, of_both)

pub returns : goal.returns
unfolding not_rising earliest
returns c = grind (arith, common_steps, of_both)
