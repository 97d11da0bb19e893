use Rattle.std.proofs.Common.{arith}
use Rattle.std.proofs.lemmas.Grind.{common_steps}
use Rattle.sim_flat_blocks.specs.Plans.{signals_of}
use Rattle.sim_flat_blocks.proofs.objects.signals.Goals as goal

pub loop-each-preserved : goal.loop-each-preserved
unfolding signals_of
loop-each-preserved c = grind (arith, common_steps)

pub returns : goal.returns
unfolding signals_of
returns c = grind (arith, common_steps)
