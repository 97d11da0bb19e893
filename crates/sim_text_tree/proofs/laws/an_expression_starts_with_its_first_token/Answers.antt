use Rattle.sim_text_tree.proofs.ExpressionStarts.{expression_first}
use Rattle.sim_text_tree.proofs.laws.an_expression_starts_with_its_first_token.Goals as goal

pub returns : goal.returns
returns c = λ p n x i j h. expression_first p n x i j h
