use Rattle.std.proofs.Common.{arith}
use Rattle.std.proofs.lemmas.Grind.{common_steps}
use Rattle.sim_flat_bodies.specs.Statements.{waveform_of}
use Rattle.sim_flat_bodies.proofs.waveforms.elements.Goals as goal

pub loop-each-preserved : goal.loop-each-preserved
unfolding waveform_of
loop-each-preserved c = grind (arith, common_steps)

pub returns-clause-value : goal.returns-clause-value
unfolding waveform_of
returns-clause-value c = grind (arith, common_steps)
