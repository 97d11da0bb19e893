use Rattle.sim_text_grammar.proofs.WholeFiles.{is_refused}
use Rattle.sim_text_grammar.proofs.laws.refused_tokens_spell_no_file.Goals as goal

pub returns : goal.returns
returns c = λ tokens file e f h. is_refused tokens e file f h
