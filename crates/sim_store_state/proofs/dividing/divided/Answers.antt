use Rattle.std.proofs.Common.{arith}
use Rattle.std.proofs.lemmas.Result.{IfOk-weaker}
use Rattle.sim_store_state.proofs.Divided.{shares-divided}
use Rattle.sim_store_state.proofs.dividing.divided.Goals as goal

pub returns-in-Some-clause-shared : goal.returns-in-Some-clause-shared
returns-in-Some-clause-shared c =
    IfOk-weaker c.divide.result _ _ (λ v d. shares-divided _ _ v.items (omega arith) d) c.divide.ensures
