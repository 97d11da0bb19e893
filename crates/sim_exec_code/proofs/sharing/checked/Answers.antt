use Rattle.sim_exec_code.proofs.SharedCodes.{code_past}
use Rattle.sim_exec_code.proofs.sharing.checked.Goals as goal

pub returns-else-has_body : goal.returns-else-has_body
returns-else-has_body c = λ codes made.
    code_past c.args.processes.now c.args.firsts.now codes made c.args.none c.requires c.args.process.now.body
