use Rattle.sim_exec_code.proofs.StepsRight.{steps_leave}
use Rattle.sim_exec_code.proofs.laws.steps_have_the_effect_of_their_statements.Goals as goal

pub returns : goal.returns
returns c = λ l look now xs ss F D is e fr. steps_leave l is look now xs ss e F D fr
