use Rattle.sim_flat_check.proofs.Typed.{value_of_target}
use Rattle.sim_flat_check.proofs.laws.a_value_without_faults_has_the_type_of_its_target.Goals as goal

pub returns : goal.returns
returns c = λ look target x all none. value_of_target look all target x none
