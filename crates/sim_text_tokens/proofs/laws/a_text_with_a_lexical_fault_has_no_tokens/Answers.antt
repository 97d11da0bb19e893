use Rattle.sim_text_tokens.proofs.Cuts.{no_cutting}
use Rattle.sim_text_tokens.proofs.laws.a_text_with_a_lexical_fault_has_no_tokens.Goals as goal

pub returns : goal.returns
returns c = no_cutting
