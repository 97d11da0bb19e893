use Rattle.std.proofs.Common.{arith}
use Rattle.std.proofs.lemmas.Grind.{common_steps}
use Rattle.sim_flat_bodies.proofs.WaveformTimes.{timed}
use Rattle.sim_flat_bodies.proofs.waveforms.waveform.Goals as goal

pub new-requires : goal.new-requires
new-requires c = grind (arith, common_steps, timed)

pub returns-clause-fits : goal.returns-clause-fits
returns-clause-fits c = grind (arith, common_steps, timed)
