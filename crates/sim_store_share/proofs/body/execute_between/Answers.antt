use Rattle.std.proofs.Common.{arith}
use Rattle.std.proofs.lemmas.Grind.{common_steps}
use Rattle.sim_store_share.proofs.body.execute_between.Goals as goal

pub returns-clause-drivers : goal.returns-clause-drivers
returns-clause-drivers c = grind (arith, common_steps)

pub returns-clause-variables : goal.returns-clause-variables
returns-clause-variables c = grind (arith, common_steps)
