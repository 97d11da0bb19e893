use Rattle.sim_exec_code.proofs.BodiesRight.{body_does}
use Rattle.sim_exec_code.proofs.laws.code_has_the_effect_of_its_statements.Goals as goal

pub returns : goal.returns
returns c = λ look now xs f own. body_does look now xs f own
