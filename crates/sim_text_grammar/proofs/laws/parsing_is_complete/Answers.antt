use Rattle.sim_text_grammar.proofs.UnitsComplete.{file_again}
use Rattle.sim_text_grammar.proofs.laws.parsing_is_complete.Goals as goal

pub returns : goal.returns
returns c = λ tokens file h. file_again file tokens h
