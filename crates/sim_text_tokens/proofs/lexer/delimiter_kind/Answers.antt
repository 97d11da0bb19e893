use Rattle.sim_text_tokens.proofs.Classes.{no_delimiter_empty, no_delimiter_long}
use Rattle.std.proofs.lemmas.Grind.{common_steps}
use Rattle.std.proofs.Common.{sym, arith}
use Rattle.sim_text_tokens.proofs.lexer.delimiter_kind.Goals as goal

pub returns-in_default : goal.returns-in_default
returns-in_default c = sym (no_delimiter_empty c.args.bytes.now (omega arith))

pub returns-in_default-2 : goal.returns-in_default-2
returns-in_default-2 c = sym (no_delimiter_long c.args.bytes.now (omega arith))

pub returns-in-len1 : goal.returns-in-len1
returns-in-len1 c = grind (arith, common_steps)

pub returns-in-len2 : goal.returns-in-len2
returns-in-len2 c = grind (arith, common_steps)
