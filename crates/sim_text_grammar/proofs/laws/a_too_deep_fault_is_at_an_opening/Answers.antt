use Rattle.sim_text_grammar.proofs.WholeFiles.{deep_opening}
use Rattle.sim_text_grammar.proofs.laws.a_too_deep_fault_is_at_an_opening.Goals as goal

pub returns : goal.returns
returns c = λ tokens n e. deep_opening tokens n e
