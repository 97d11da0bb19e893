use Rattle.std.proofs.Common.{arith}
use Rattle.std.proofs.lemmas.Grind.{common_steps}
use Rattle.sim_flat_bodies.proofs.WaveformTimes.{assignments_fit}
use Rattle.sim_flat_bodies.specs.Statements.{assigned, signal_of}
use Rattle.sim_flat_bodies.proofs.statements.signal.Goals as goal

pub returns-then-not-waveform_timed-clause-fits : goal.returns-then-not-waveform_timed-clause-fits
unfolding signal_of assigned
returns-then-not-waveform_timed-clause-fits c = grind (arith, common_steps, assignments_fit)

pub returns-in_default-clause-fits : goal.returns-in_default-clause-fits
unfolding signal_of assigned
returns-in_default-clause-fits c = grind (arith, common_steps, assignments_fit)

pub returns-clause-fits : goal.returns-clause-fits
unfolding signal_of assigned
returns-clause-fits c = grind (arith, common_steps, assignments_fit)
