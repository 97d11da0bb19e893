use Rattle.sim_text_tokens.proofs.Order.{in_order}
use Rattle.sim_text_tokens.proofs.laws.tokens_are_in_order.Goals as goal

pub returns : goal.returns
returns c = in_order
