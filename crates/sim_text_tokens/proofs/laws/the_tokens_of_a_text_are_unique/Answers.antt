use Rattle.sim_text_tokens.proofs.Cuts.{one_cutting}
use Rattle.sim_text_tokens.proofs.laws.the_tokens_of_a_text_are_unique.Goals as goal

pub returns : goal.returns
returns c = one_cutting
