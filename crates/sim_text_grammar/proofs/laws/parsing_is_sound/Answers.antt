use Rattle.sim_text_grammar.proofs.WholeFiles.{is_found}
use Rattle.sim_text_grammar.proofs.laws.parsing_is_sound.Goals as goal

pub returns : goal.returns
returns c = λ tokens rest file e. is_found tokens rest file e
