use Rattle.sim_flat_check.proofs.Typed.{condition_of_type}
use Rattle.sim_flat_check.proofs.laws.a_condition_without_faults_is_boolean_or_the_condition_operator_applies.Goals as goal

pub returns : goal.returns
returns c = λ look x all none. condition_of_type look all x none
