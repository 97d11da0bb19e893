use Rattle.sim_flat_expansion.specs.Expanding.{signals_expanded}
use Rattle.std.proofs.Common.{arith}
use Rattle.std.proofs.lemmas.Grind.{common_steps}
use Rattle.sim_flat_expansion.proofs.flat_sources.signals.Goals as goal

pub returns : goal.returns
unfolding signals_expanded
returns c = grind (arith, common_steps)

pub loop-signal-preserved : goal.loop-signal-preserved
unfolding signals_expanded
loop-signal-preserved c = grind (arith, common_steps)
