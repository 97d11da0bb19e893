use Rattle.std.proofs.Common.{arith}
use Rattle.std.proofs.lemmas.Grind.{common_steps}
use Rattle.sim_standard.specs.Expressions.{taken_waveform}
use Rattle.sim_exec_statements.proofs.Fits.{all_rejected, last_rejected}
use Rattle.sim_exec_statements.proofs.assignments.taken_waveform.Goals as goal

pub boolean_value-requires : goal.boolean_value-requires
unfolding taken_waveform
boolean_value-requires g c = grind (arith, common_steps, all_rejected, last_rejected)

pub elements-requires : goal.elements-requires
unfolding taken_waveform
elements-requires g c = grind (arith, common_steps, all_rejected, last_rejected)

pub elements-requires-in-Some : goal.elements-requires-in-Some
unfolding taken_waveform
elements-requires-in-Some g c = grind (arith, common_steps, all_rejected, last_rejected)

pub returns-then-boolean_value : goal.returns-then-boolean_value
unfolding taken_waveform
returns-then-boolean_value g c = grind (arith, common_steps, all_rejected, last_rejected)

pub loop-conditional-preserved : goal.loop-conditional-preserved
unfolding taken_waveform
loop-conditional-preserved g c = grind (arith, common_steps, all_rejected, last_rejected)

pub returns-in-Some : goal.returns-in-Some
unfolding taken_waveform
returns-in-Some g c = grind (arith, common_steps, all_rejected, last_rejected)

pub returns-in-None : goal.returns-in-None
unfolding taken_waveform
returns-in-None g c = grind (arith, common_steps, all_rejected, last_rejected)
