use Rattle.sim_flat_expansion.specs.Expanding.{ports_expanded}
use Rattle.std.proofs.Common.{arith}
use Rattle.std.proofs.lemmas.Grind.{common_steps}
use Rattle.sim_flat_expansion.proofs.flat_sources.ports.Goals as goal

pub loop-at-preserved : goal.loop-at-preserved
unfolding ports_expanded
loop-at-preserved c = grind (arith, common_steps)

pub returns-clause-value : goal.returns-clause-value
unfolding ports_expanded
returns-clause-value c = grind (arith, common_steps)
