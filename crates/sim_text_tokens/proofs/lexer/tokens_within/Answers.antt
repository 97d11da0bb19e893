use Rattle.std.proofs.Common.{rules}
use Rattle.sim_text_tokens.proofs.lexer.tokens_within.Goals as goal

pub returns-clause-too_long : goal.returns-clause-too_long
returns-clause-too_long c = search rules
