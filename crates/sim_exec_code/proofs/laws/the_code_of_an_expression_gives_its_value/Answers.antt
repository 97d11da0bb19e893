use Rattle.sim_exec_code.proofs.ExpressionsRight.{logic_right, boolean_right}
use Rattle.sim_exec_code.proofs.laws.the_code_of_an_expression_gives_its_value.Goals as goal

pub returns : goal.returns
returns c = record {
  logic = λ look vs x to before f. logic_right look vs x to before f;
  boolean = λ look vs x to before f. boolean_right look vs x to before f;
}
