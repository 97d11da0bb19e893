use Rattle.sim_text_tokens.proofs.Cuts.{one_fault}
use Rattle.sim_text_tokens.proofs.laws.the_lexical_fault_of_a_text_is_unique.Goals as goal

pub returns : goal.returns
returns c = one_fault
