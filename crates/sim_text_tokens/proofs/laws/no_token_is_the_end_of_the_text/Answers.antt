use Rattle.sim_text_tokens.proofs.Order.{no_end}
use Rattle.sim_text_tokens.proofs.laws.no_token_is_the_end_of_the_text.Goals as goal

pub returns : goal.returns
returns c = no_end
