use Rattle.sim_text_tokens.proofs.Order.{some_outcome}
use Rattle.sim_text_tokens.proofs.laws.a_text_has_tokens_or_a_lexical_fault.Goals as goal

pub returns : goal.returns
returns c = some_outcome
