use Rattle.sim_flat_check.proofs.Typed.{typed}
use Rattle.sim_flat_check.proofs.laws.an_expression_without_faults_has_a_type.Goals as goal

pub returns : goal.returns
returns c = λ look x all none. typed look all x none
