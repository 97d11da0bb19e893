use Rattle.std.proofs.Common.{rules}
use Rattle.sim_flat_bodies.specs.Statements.{delay_of}
use Rattle.sim_flat_bodies.proofs.waveforms.delay.Goals as goal

pub returns-in-Unwritten : goal.returns-in-Unwritten
unfolding delay_of
returns-in-Unwritten c = search rules
