use Rattle.std.proofs.Common.{arith}
use Rattle.std.proofs.lemmas.Grind.{common_steps}
use Rattle.sim_store_state.proofs.resumption.sensitive_to.Goals as goal

pub returns-then-net-len : goal.returns-then-net-len
returns-then-net-len c = grind (arith, common_steps)
