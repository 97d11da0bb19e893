use Rattle.std.proofs.Common.{arith}
use Rattle.std.proofs.lemmas.Grind.{common_steps}
use Rattle.sim_flat_bodies.proofs.waveforms.conditionals.Goals as goal

pub loop-each-preserved : goal.loop-each-preserved
loop-each-preserved c = grind (arith, common_steps)

pub returns-clause-value : goal.returns-clause-value
returns-clause-value c = grind (arith, common_steps)
