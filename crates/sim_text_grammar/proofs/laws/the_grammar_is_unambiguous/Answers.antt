use Rattle.sim_text_grammar.proofs.WholeFiles.{one_file}
use Rattle.sim_text_grammar.proofs.laws.the_grammar_is_unambiguous.Goals as goal

pub returns : goal.returns
returns c = λ tokens a b x y. one_file tokens a b x y
